-- A sweep is refused at a position of its lists, the filler at 0; passes are at most twice the readings. So no answer overflows.
use Prim.Native.Nat.{ℕ, ◌+◌, ◌-◌, ◌*◌, ◌≤◌}
use Rattle.std.specs.Prelude.{Result, Ok}
use Rattle.meanings.specs.declared.Refusal.{Refusal}
use Rattle.meanings.specs.Calls.{answer_of}
use mathlib.Core.Path.{◌≡◌, sym, ap, ◌∙◌}
use mathlib.Core.List.{List}
use native.Mathlib.Omega.{arith}
use lib.Dec.{ltb, leb, eqb}
use lib.ListN.{length}
use Rattle.meanings.specs.declared.Limits.{Limits}
use Rattle.meanings.specs.Limits.{full, LimitsWithin, max_u16, max_sheet, row_width}
use Rattle.meanings.specs.Reports.{given, differ, uneven_rows, fill_checks}
use Rattle.meanings.specs.Moves.{moves}
use Rattle.meanings.specs.Running.{fresh, passes}
use Rattle.meanings.specs.Grid.{presets}
use Rattle.meanings.specs.Calls.{smooth, smooth_refusal, fill}
use Rattle.meanings.proofs.Checks.{given_accepted}
use Rattle.meanings.proofs.Passes.{passes_at_most_twice}
use Rattle.meanings.proofs.SmoothSteps.{smooth_accepts}
use Rattle.exports.proofs.CurvePlaces.{curve_place}
use Rattle.exports.proofs.AnswersPlaces.{refusal_place, answer_small, at_start}

-- the sweep under limits at most the full ones, so the preview too
pub smooth_place : (L : Limits) → LimitsWithin L full → (ts vs zs hs rs : List ℕ) → refusal_place (smooth L ts vs zs hs rs) ≤ max_sheet
unfolding smooth
smooth_place L w ts vs zs hs rs = curve_place L w ts vs zs hs (uneven_rows row_width (length rs) (length zs)) (passes ts vs fresh (moves zs hs))

pub fill_place : (z₀ spacing preset : ℕ) (zs hs : List ℕ) → refusal_place (fill full z₀ spacing preset zs hs) ≤ max_sheet
unfolding fill
fill_place z₀ spacing preset zs hs =
    let n = length zs in
    answer_small (fill_checks full (length presets) z₀ spacing preset n (length hs)) tt (
      at_start (differ n (length hs)),
      λ even. (
        at_start (eqb n 0),
        λ any. (
          at_start (ltb 512 n),
          λ few. (at_start (leb (length presets) preset), λ known. (at_start (ltb max_u16 (z₀ + (n - 1) * spacing)), λ within. tt)),
        ),
      ),
    )

pub passes_small : (L : Limits) → LimitsWithin L full → (ts vs zs hs rs : List ℕ) (n : ℕ) → smooth L ts vs zs hs rs ≡ given n → n ≤ 2048
unfolding smooth
passes_small L w ts vs zs hs rs n q =
    let a = given_accepted (smooth_refusal L ts vs zs hs rs) (passes ts vs fresh (moves zs hs)) n q in
    let s = (smooth_accepts L w ts vs zs hs (length rs) a.0).lists in
    let m = passes_at_most_twice ts vs (moves zs hs) in
    omega (arith, a.1, s.few)

pub passes_few : (L : Limits) → LimitsWithin L full → (ts vs zs hs rs : List ℕ) (r : Result ℕ Refusal) (n : ℕ)
    → answer_of r ≡ smooth L ts vs zs hs rs → r ≡ Ok n → n ≤ 2048
passes_few L w ts vs zs hs rs r n answer met = passes_small L w ts vs zs hs rs n (sym answer ∙ ap answer_of met)
