-- The number fits where any does, or where so many digits do.
use native.Mathlib.Omega.{arith}
use Rattle.text.proofs.RoomLaws.{any_fits}
use Rattle.text.proofs.decimal.put_number.Goals.{then-out-ge-MOST_DIGITS-via-then-out-ge-MOST_DIGITS}
use Rattle.text.proofs.decimal.put_number.Goals.{then-out-ge-MOST_DIGITS-via-else-out-ge-MOST_DIGITS+then-decimal_size-out}
use Rattle.text.proofs.decimal.put_number.Goals as goal

pub put_decimal-requires : goal.put_decimal-requires
put_decimal-requires c =
    elim c.then-out-ge-MOST_DIGITS.branch [
      | then-out-ge-MOST_DIGITS-via-then-out-ge-MOST_DIGITS w ↦ search any_fits
      | then-out-ge-MOST_DIGITS-via-else-out-ge-MOST_DIGITS+then-decimal_size-out w ↦ omega (arith, w.decimal_size.ensures.value, w.if-decimal_size-out.true)
    ]
