-- SPECIFICATION, "The preview": one sweep under two pairs of limits, L at most M. Both look at the same checks in the same order, and only
-- report 6 goes by the limits. The theorem is `one_sweep` of proofs/TwoLimits.antt; the preview and the full sweep are an instance of it.
-- ts are minutes, vs values, zs marks, hs half widths, rs the rows at entry.
use Rattle.std.specs.Prelude.{ℕ, ◌≤◌, ◌<◌, ◌≡◌, ◌↔◌, ◌⊎◌, List, length}
use Rattle.meanings.specs.declared.Limits.{Limits}
use Rattle.meanings.specs.Reports.{given, refused}
use Rattle.meanings.specs.Calls.{smooth, smooth_rows}

-- no more readings and marks than the limits allow
pub record Fits (L : Limits) (ts zs : List ℕ) : Type 0 where
  pub samples : length ts ≤ L.samples
  pub points : length zs ≤ L.points

-- more of one than they allow
abbrev pub Over : Limits → List ℕ → List ℕ → Type 0
Over L ts zs = (L.samples < length ts) ⊎ (L.points < length zs)

pub record OneSweep (L M : Limits) (ts vs zs hs rs : List ℕ) : Type 0 where
  -- the smaller one accepts exactly what the larger one accepts and its own limits allow, with the same passes
  pub accepts : (n : ℕ) → (smooth L ts vs zs hs rs ≡ given n) ↔ ((smooth M ts vs zs hs rs ≡ given n) × Fits L ts zs)
  -- within the smaller limits both give the same: passes, or report and place
  pub same_answer : Fits L ts zs → smooth L ts vs zs hs rs ≡ smooth M ts vs zs hs rs
  pub same_rows : Fits L ts zs → smooth_rows L ts vs zs hs rs ≡ smooth_rows M ts vs zs hs rs
  -- over them the smaller one gives 8 where the larger one does, at place 0
  pub uneven : Over L ts zs → (p : ℕ) → smooth M ts vs zs hs rs ≡ refused (record { number = 8; place = p })
      → (p ≡ 0) × (smooth L ts vs zs hs rs ≡ refused (record { number = 8; place = 0 }))
  -- and otherwise 6
  pub too_many : Over L ts zs → ((p : ℕ) → ¬ (smooth M ts vs zs hs rs ≡ refused (record { number = 8; place = p })))
      → smooth L ts vs zs hs rs ≡ refused (record { number = 6; place = 0 })
  -- either way the rows stay
  pub rows_stay : Over L ts zs → smooth_rows L ts vs zs hs rs ≡ rs
