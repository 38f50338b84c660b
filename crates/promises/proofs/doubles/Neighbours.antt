-- A row of the half widths by neighbours is that of a window, so it can be told.
use Prim.Native.Nat.{ℕ, ◌<◌}
use mathlib.Core.Path.{◌≡◌, refl, sym, ap, ◌∙◌, subst}
use mathlib.Core.Bool.{Bool, true, ◌&&◌, and-eq-true_iff}
use mathlib.Core.List.{List, [], ◌∷◌}
use Rattle.std.specs.Prelude.{Option, None, Some}
use native.Mathlib.Omega.{arith}
use borrow.Author.Tests.{ltb-true}
use lib.Dec.{ltb}
use lib.ListN.{length, get_or}
use Rattle.meanings.specs.Codes.{answered, no_detail}
use Rattle.meanings.specs.Estimate.{estimate, rows}
use Rattle.meanings.specs.Limits.{full, max_u16}
use Rattle.meanings.specs.Lists.{AtMost}
use Rattle.meanings.specs.Reports.{Fault, given, unless, accepted_or, Check, fault_or, first_of}
use Rattle.meanings.proofs.Checks.{same_limits, given_accepted}
use Rattle.meanings.proofs.SmoothRows.{row_at_point}
use Rattle.meanings.specs.neighbours.Neighbours.{neighbour_bandwidth, neighbour_bandwidths, neighbours_checks, neighbours_refusal}
use Rattle.meanings.specs.neighbours.Neighbours.{neighbours, rows_then}
use Rattle.laws.proofs.neighbours.Edges.{bandwidth_at}
use Rattle.laws.proofs.neighbours.Refusals.{neighbours_accepts}
use Rattle.laws.proofs.neighbours.Rows.{row_fits}
use Rattle.meanings.specs.doubles.Doubles.{Tellable}
use Rattle.text.specs.Table.{stored_row}
use Rattle.promises.proofs.Rows.{five_are_row}
use Rattle.promises.proofs.neighbours.ByNeighbours.{by_neighbours}
use Rattle.promises.specs.doubles.Neighbours.{NeighboursHadBack}
use Rattle.promises.proofs.doubles.Doubles.{doubles_hold}
use Rattle.promises.proofs.doubles.Rows.{window_tellable}

module _ (ts vs zs : List ℕ) (k : ℕ) (hs rs : List ℕ) (minutes : AtMost max_u16 ts) (values : AtMost max_u16 vs) (points : AtMost max_u16 zs)
    (q : neighbours full ts vs zs k hs rs ≡ given tt) where
  rows_tellable : (rs' : List ℕ) → rs' ≡ rows_then full ts vs zs k hs rs → (i : ℕ) → i < length zs → Tellable (stored_row rs' i)
  unfolding neighbours rows_then
  rows_tellable rs' e i l =
      let free = (given_accepted (neighbours_refusal full ts vs zs k hs rs) tt tt q).0 in
      let a = neighbours_accepts full ts vs zs k hs (same_limits full) (length rs) free in
      let f = row_fits ts vs zs k hs (length rs) a minutes values (get_or zs i 0) (points i l) in
      let nb = neighbour_bandwidths ts zs k in
      let all : rs' ≡ rows ts vs zs nb (length zs) = e ∙ ap (λ (o : Option Fault). accepted_or o (rows ts vs zs nb (length zs)) rs) free in
      let here : stored_row rs' i ≡ estimate ts vs (get_or zs i 0) (neighbour_bandwidth ts (get_or zs i 0) k) =
      ap (λ (r : List ℕ). stored_row r i) all
      ∙ five_are_row (rows ts vs zs nb (length zs)) i (estimate ts vs (get_or zs i 0) (get_or nb i 0)) (row_at_point ts vs zs nb (length zs) i l)
      ∙ ap (estimate ts vs (get_or zs i 0)) (bandwidth_at ts zs k i l) in
      subst Tellable (sym here)
      (window_tellable ts vs (get_or zs i 0) (neighbour_bandwidth ts (get_or zs i 0) k)
      (record { even = f.even; few = f.few; values = values; bandwidth = f.bandwidth }))

-- an answer of 0 is accepted, since no check has the number 0
numbered : List Check → Bool
numbered [] = true
numbered (c ∷ cs) = ltb 0 c.number && numbered cs

number_of_fault : Option Fault → ℕ
number_of_fault None = 0
number_of_fault (Some f) = f.number

found_numbered : (cs : List Check) → numbered cs ≡ true → (f : Fault) → first_of cs ≡ Some f → 0 < f.number
unfolding numbered number_of_fault
found_numbered [] n f q = let z : ◌≡◌ {A = ℕ} 0 1 = cc in absurd (omega arith)
found_numbered (c ∷ cs) n f q =
    let b = (and-eq-true_iff (ltb 0 c.number) (numbered cs)).0 n in
    by c.place q (ltb-true 0 c.number b.0) (found_numbered cs b.1 f)
  where
    by : (p : Option ℕ) → fault_or c.number p (first_of cs) ≡ Some f → 0 < c.number → (first_of cs ≡ Some f → 0 < f.number) → 0 < f.number
    by None q l later = later q
    by (Some p) q l later = let same : c.number ≡ f.number = ap number_of_fault q in omega arith

accepted_by_zero : (cs : List Check) → numbered cs ≡ true → 0 ≡ answered {A = Unit} no_detail (unless (first_of cs) tt) → first_of cs ≡ None
accepted_by_zero cs n q = by (first_of cs) refl q
  where
    by : (o : Option Fault) → first_of cs ≡ o → 0 ≡ answered {A = Unit} no_detail (unless o tt) → first_of cs ≡ None
    by None e q = e
    by (Some f) e q = let l = found_numbered cs n f e in absurd (omega arith)

given_by_zero : (ts vs zs : List ℕ) (k : ℕ) (hs rs : List ℕ) → 0 ≡ answered no_detail (neighbours full ts vs zs k hs rs)
    → neighbours full ts vs zs k hs rs ≡ given tt
unfolding neighbours numbered
given_by_zero ts vs zs k hs rs q =
    ap (λ (o : Option Fault). unless o tt) (accepted_by_zero (neighbours_checks full ts vs zs k hs (length rs)) refl q)

pub neighbours_rows_had_back : NeighboursHadBack
neighbours_rows_had_back = record {
  neighbours_had_back = λ ts vs zs k hs rs hs' rs' i c m v p x l r.
      doubles_hold.row_had_back (stored_row rs' i) c
      (rows_tellable ts vs zs k hs rs m v p (sym x.ensured.0) rs' x.ensured.1.1 i l) r;
  exported_neighbours_had_back = λ ts vs zs k hs rs a hs' rs' i c xs' d ys' m v p x e l r.
      let zero : a ≡ 0 = (by_neighbours.exported_filled_in ts vs zs k hs rs a hs' rs' m v p x e).0 in
      let q = given_by_zero ts vs zs k hs rs (sym zero ∙ x.ensured.0) in
      doubles_hold.exported_row_had_back (stored_row rs' i) c xs' d ys' (rows_tellable ts vs zs k hs rs m v p q rs' x.ensured.1.1 i l) r;
}
