-- A turn of a record from elsewhere, whose sums wrap below 0 and stay above half of what 64 bits hold.
use Prim.Native.Nat.{ℕ, ◌+◌, ◌-◌, ◌^◌}
use mathlib.Core.Path.{◌≡◌, refl}
use mathlib.Core.List.{[], ◌∷◌}
use Rattle.std.specs.Prelude.{None}
use Rattle.meanings.specs.Lists.{distance}
use Rattle.meanings.specs.Estimate.{left_of, right_of}
use Rattle.meanings.specs.Turn.{turned, turn_record}
use Rattle.meanings.specs.Cases.{AllHold, ◌⇒◌, turn_over, turned_to, is_record, is_sums}

pub wrapping_turns :
    AllHold (
    -- a reading let go from sums below and above it
    turn_over (1 ∷ []) (2 ∷ []) (is_record 0 1 (is_sums 0 0 0 (2 ^ 63 + 5) 9 1)) 9 1
    ⇒ turned_to None (is_record 1 1 (is_sums (2 ^ 64 - 1) (2 ^ 64 - 1) (2 ^ 64 - 1) (2 ^ 63 + 3) 7 (2 ^ 64 - 1)))
    ∷ [])
unfolding left_of right_of distance turned turn_record
wrapping_turns = refl
