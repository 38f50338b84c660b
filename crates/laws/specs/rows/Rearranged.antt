-- SPECIFICATION, "What holds of every curve": readings of equal minute may change places among themselves. It is said of any function that makes
-- a row of minutes, values, a mark and a half width; `estimate` satisfies it, and then so do the calls and the curve's text
-- (proofs/Rearranged.antt). Wrong functions do not (proofs/WrongRows.antt).
use Rattle.std.specs.Prelude.{ℕ, ◌≡◌, ◌&&◌, List, eqb, length, get_or}
use Rattle.meanings.specs.declared.Limits.{Limits}
use Rattle.meanings.specs.Lists.{pick, total, Ordered}
use Rattle.meanings.specs.Estimate.{estimate}
use Rattle.meanings.specs.Calls.{evaluate, smooth, smooth_rows}
use Rattle.meanings.specs.Output.{curve_text}
use Rattle.laws.specs.rows.AmongReadings.{RowFunction}

-- at how many positions the minute is t and the value v
abbrev pub occurrences : List ℕ → List ℕ → ℕ → ℕ → ℕ
occurrences ts vs t v = total (λ i. pick (eqb (get_or ts i 0) t && eqb (get_or vs i 0) v) 1 0) 0 (length ts)

-- the same minutes, with values that have changed places among readings of equal minute: each minute and value occur together as often
pub record Rearranged (ts vs vs' : List ℕ) : Type 0 where
  pub even : length ts ≡ length vs
  pub even' : length ts ≡ length vs'
  pub as_often : (t v : ℕ) → occurrences ts vs t v ≡ occurrences ts vs' t v

abbrev pub MayChangePlaces : RowFunction → Type 0
MayChangePlaces F = (ts vs vs' : List ℕ) (z h : ℕ) → Ordered ts → Rearranged ts vs vs' → F ts vs z h ≡ F ts vs' z h

-- what is the same of both; only an ordered list has rows that do not go by places, and the calls refuse any other
pub record SameCurves (ts vs vs' : List ℕ) : Type 0 where
  pub estimates : Ordered ts → (z h : ℕ) → estimate ts vs z h ≡ estimate ts vs' z h
  pub evaluations : (L : Limits) (z h : ℕ) → evaluate L ts vs z h ≡ evaluate L ts vs' z h
  -- the whole sweep and the preview
  pub smooth_answers : (L : Limits) (zs hs rs : List ℕ) → smooth L ts vs zs hs rs ≡ smooth L ts vs' zs hs rs
  pub rows_at_exit : (L : Limits) (zs hs rs : List ℕ) → smooth_rows L ts vs zs hs rs ≡ smooth_rows L ts vs' zs hs rs
  pub texts : Ordered ts → (zs hs : List ℕ)
      → curve_text (record { minutes = ts; values = vs; points = zs; bandwidths = hs })
      ≡ curve_text (record { minutes = ts; values = vs'; points = zs; bandwidths = hs })
