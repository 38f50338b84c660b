-- What the full curve would say: a sweep with room for its rows is refused alike, and its rows tell position and passes.
use Prim.Native.Nat.{ℕ, ◌+◌, ◌*◌, ◌<◌}
use mathlib.Core.Path.{◌≡◌, refl, sym, ap, ◌∙◌}
use mathlib.Core.Bool.{Bool, false}
use mathlib.Core.List.{List}
use Rattle.std.specs.Prelude.{Option, None, Some}
use native.Mathlib.Nat.{add_comm}
use native.Mathlib.Omega.{arith}
use lib.ListN.{length, get_or, drop}
use lib.Seq.{get_or-take, get_or-drop}
use Rattle.meanings.specs.declared.Limits.{Limits}
use Rattle.meanings.specs.Limits.{full, LimitsWithin, max_u16, row_width}
use Rattle.meanings.specs.Lists.{lowest, AtMost}
use Rattle.meanings.specs.Moves.{moves}
use Rattle.meanings.specs.Reports.{Fault, given, unless, accepted_or, first_of, curve_checks}
use Rattle.meanings.specs.Estimate.{estimate, fields, left_of, right_of, rows}
use Rattle.meanings.specs.Running.{fresh, passes}
use Rattle.meanings.specs.Calls.{smooth, smooth_refusal, smooth_rows}
use Rattle.meanings.proofs.Checks.{differ_same}
use Rattle.meanings.proofs.Search.{lowest_none, lowest_some, none_lowest, lowest_at}
use Rattle.meanings.proofs.Steps.{Small}
use Rattle.meanings.proofs.SmoothSteps.{CurveAccepted, curve_accepts}
use Rattle.meanings.proofs.SmoothRows.{row_at_point}
use Rattle.meanings.specs.limit.Crossing.{low_at, first_low, steps_to, located, crossing_refusal, first_at_most}
use Rattle.meanings.specs.limit.Crossing.{low_row, passes_by_rows, located_by_rows, answer_by_rows}
use Rattle.meanings.proofs.LimitPasses.{passes_to_point}

-- tests that agree at every position have the same lowest one
pub lowest_agrees : (p q : ℕ → Bool) (n : ℕ) → ((j : ℕ) → j < n → p j ≡ q j) → lowest p n ≡ lowest q n
lowest_agrees p q n same = by (lowest p n) refl
  where
    by : (o : Option ℕ) → lowest p n ≡ o → o ≡ lowest q n
    by None e = sym (none_lowest q n (λ j l. sym (same j l) ∙ lowest_none p n e j l))
    by (Some k) e =
        let f = lowest_some p n k e in
        sym (lowest_at q n k f.0 (sym (same k f.0) ∙ f.1.there (omega (arith, f.0)))
        (λ j l. sym (same j (omega (arith, f.0))) ∙ f.1.before j (omega arith) l))

module _ (ts vs zs hs : List ℕ) (limit : ℕ) where
  -- number j of row k
  row_field : (k j : ℕ) → k < length zs → j < row_width
      → get_or (rows ts vs zs hs (length zs)) (row_width * k + j) 0 ≡ get_or (fields (estimate ts vs (get_or zs k 0) (get_or hs k 0))) j 0
  row_field k j l m =
      sym (get_or-drop (row_width * k) (rows ts vs zs hs (length zs)) j 0)
      ∙ sym (get_or-take row_width (drop (row_width * k) (rows ts vs zs hs (length zs))) j 0 m)
      ∙ ap (λ (xs : List ℕ). get_or xs j 0) (row_at_point ts vs zs hs (length zs) k l)

  same_test : (k : ℕ) → k < length zs → low_at ts vs zs hs limit k ≡ low_row (rows ts vs zs hs (length zs)) limit k
  unfolding low_at low_row estimate
  same_test k l = sym (rw (row_field k 2 l (omega arith), row_field k 4 l (omega arith)))

  module _ (s : Small ts vs) (a : CurveAccepted ts vs zs hs) where
    passes_agree : (o : Option ℕ) → first_low ts vs zs hs limit ≡ o
        → passes ts vs fresh (steps_to zs hs o) ≡ passes_by_rows (rows ts vs zs hs (length zs)) (passes ts vs fresh (moves zs hs)) o
    unfolding estimate
    passes_agree None e = refl
    passes_agree (Some k) e =
        let l = (lowest_some (low_at ts vs zs hs limit) (length zs) k e).0 in
        let here : row_width * k + 0 ≡ row_width * k = omega arith in
        passes_to_point ts vs zs hs s a k l
        ∙ add_comm (right_of ts (get_or zs k 0) (get_or hs k 0)) (left_of ts (get_or zs k 0) (get_or hs k 0))
        ∙ sym (rw (row_field k 1 l (omega arith), rw here at (row_field k 0 l (omega arith))))

    rows_tell : located ts vs zs hs limit
        ≡ located_by_rows (rows ts vs zs hs (length zs)) (length zs) limit (passes ts vs fresh (moves zs hs))
    rows_tell =
        ap (λ (n : ℕ). record { position = first_low ts vs zs hs limit; passes = n }) (passes_agree (first_low ts vs zs hs limit) refl)
        ∙ ap (λ (o : Option ℕ). record {
          position = o;
          passes = passes_by_rows (rows ts vs zs hs (length zs)) (passes ts vs fresh (moves zs hs)) o;
        })
        (lowest_agrees _ _ (length zs) same_test)

-- for every rows list of five numbers a mark
pub by_the_full_curve : (L : Limits) → LimitsWithin L full → (ts vs zs hs rs : List ℕ) (limit : ℕ) → AtMost max_u16 ts → AtMost max_u16 vs
    → length rs ≡ row_width * length zs
    → first_at_most L ts vs zs hs limit ≡ answer_by_rows (smooth_rows L ts vs zs hs rs) (length zs) limit (smooth L ts vs zs hs rs)
unfolding first_at_most smooth smooth_rows
by_the_full_curve L w ts vs zs hs rs limit minutes values fits = rw alike (by (crossing_refusal L ts vs zs hs) refl)
  where
    alike : smooth_refusal L ts vs zs hs rs ≡ crossing_refusal L ts vs zs hs
    alike = ap (λ (b : Bool). first_of (curve_checks L ts vs zs hs b)) (differ_same (length rs) (row_width * length zs) fits)

    n : ℕ
    n = passes ts vs fresh (moves zs hs)

    R : List ℕ
    R = rows ts vs zs hs (length zs)

    by : (f : Option Fault) → crossing_refusal L ts vs zs hs ≡ f
        → unless f (located ts vs zs hs limit) ≡ answer_by_rows (accepted_or f R rs) (length zs) limit (unless f n)
    by (Some e) q = refl
    by None q =
        let a = curve_accepts L w ts vs zs hs false q in
        ap given (rows_tell ts vs zs hs limit (record { even = a.even; few = a.few; minutes = minutes; values = values }) a)
