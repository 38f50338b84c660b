-- A sum over all readings of a number that goes by minute and value alone depends on how often each minute and value occur together, and on
-- nothing else: of two lists with the same occurrences, the first one's first reading is taken out of both, and so on. Of a row only the sum knows
-- the values, and for ordered minutes it is such a sum. Edges, passes and refusals do not know the values at all.
use Prim.Native.Nat.{ℕ, zero, suc, ◌+◌, ◌*◌, ◌<◌}
use mathlib.Core.Path.{◌≡◌, refl, sym, ap, ◌∙◌}
use mathlib.Core.Bool.{Bool, true, false, ◌&&◌, and-eq-true_iff}
use mathlib.Core.List.{List, [], ◌∷◌}
use Rattle.std.specs.Prelude.{Option, None, Some}
use native.Mathlib.Omega.{arith}
use borrow.Author.Tests.{eqb-true, eq-eqb}
use lib.Dec.{eqb}
use lib.ListN.{length, get_or}
use Rattle.meanings.specs.declared.Estimate.{Estimate}
use Rattle.meanings.specs.declared.Limits.{Limits}
use Rattle.meanings.specs.declared.RunningSums.{RunningSums}
use Rattle.meanings.specs.Lists.{pick, total, Ordered}
use Rattle.meanings.specs.Limits.{full, row_width}
use Rattle.meanings.specs.Moves.{Move, moves}
use Rattle.meanings.specs.Reports.{Fault, unless, accepted_or, first_of, size_checks, sample_order_checks, point_order_checks}
use Rattle.meanings.specs.Reports.{series_checks, bandwidth_checks, advance_checks, uneven_rows}
use Rattle.meanings.specs.Estimate.{kernel, sum_of, estimate, rows}
use Rattle.meanings.specs.Running.{fresh, moved, new_left, new_right, advance, after_step, after, passes}
use Rattle.meanings.specs.Calls.{evaluate, evaluate_refusal, smooth, smooth_refusal, smooth_rows}
use Rattle.meanings.specs.Output.{curve_lines, curve_text}
use Rattle.meanings.proofs.Checks.{none_of_both, sample_order_accepts}
use Rattle.meanings.proofs.Passes.{passes_are_last_edges}
use Rattle.meanings.proofs.SmoothSteps.{none_of_three}
use Rattle.laws.specs.rows.Rearranged.{Rearranged, SameCurves, MayChangePlaces}
use Rattle.laws.proofs.rows.AmongReadings.{sum_of_all}

-- a minute with its value
record Pair : Type 0 where
  minute : ℕ
  value : ℕ

paired : List ℕ → List ℕ → List Pair
paired [] vs = []
paired (t ∷ ts) [] = []
paired (t ∷ ts) (v ∷ vs) = record { minute = t; value = v } ∷ paired ts vs

sum_over : (Pair → ℕ) → List Pair → ℕ
sum_over f [] = 0
sum_over f (x ∷ xs) = f x + sum_over f xs

is : Pair → Pair → Bool
is x y = eqb y.minute x.minute && eqb y.value x.value

-- how often x occurs
often : Pair → List Pair → ℕ
often x ys = sum_over (λ y. pick (is x y) 1 0) ys

-- without the first x
without : Pair → List Pair → List Pair
without x [] = []
without x (y ∷ ys) = pick (is x y) ys (y ∷ without x ys)

is_itself : (x : Pair) → is x x ≡ true
unfolding is
is_itself x = rw (eq-eqb x.minute x.minute refl, eq-eqb x.value x.value refl)

is_same : (x y : Pair) → is x y ≡ true → y ≡ x
unfolding is
is_same x y e =
    let a = (and-eq-true_iff (eqb y.minute x.minute) (eqb y.value x.value)).0 e in
    let m = eqb-true y.minute x.minute a.0 in
    let v = eqb-true y.value x.value a.1 in
    λ i. record { minute = m i; value = v i }

-- an x that occurs, taken out
taken_out : (f : Pair → ℕ) (x : Pair) (ys : List Pair) → 0 < often x ys → sum_over f ys ≡ f x + sum_over f (without x ys)
unfolding sum_over often without
taken_out f x [] l = absurd (omega arith)
taken_out f x (y ∷ ys) l = by (is x y) refl l (taken_out f x ys)
  where
    by : (b : Bool) → is x y ≡ b → 0 < pick b 1 0 + sum_over (λ y. pick (is x y) 1 0) ys
        → (0 < sum_over (λ y. pick (is x y) 1 0) ys → sum_over f ys ≡ f x + sum_over f (without x ys))
        → f y + sum_over f ys ≡ f x + sum_over f (pick b ys (y ∷ without x ys))
    by true e l rest = ap (λ (p : Pair). f p + sum_over f ys) (is_same x y e)
    by false e l rest = let r = rest (omega arith) in omega arith

-- lists in which everything occurs as often have the same sums
same_sums : (f : Pair → ℕ) (xs ys : List Pair) → ((z : Pair) → often z xs ≡ often z ys) → sum_over f xs ≡ sum_over f ys
unfolding sum_over often
same_sums f [] [] same = refl
same_sums f [] (y ∷ ys) same = absurd (let e = rw (is_itself y) at (same y) in omega arith)
same_sums f (x ∷ xs) ys same =
    let e : pick (is x x) 1 0 + often x xs ≡ often x ys = same x in
    let l : 0 < often x ys = let q = rw (is_itself x) at e in omega arith in
    let rest = same_sums f xs (without x ys) (λ z. let s : pick (is z x) 1 0 + often z xs ≡ often z ys = same z in
    let t = taken_out (λ y. pick (is z y) 1 0) x ys l in omega arith) in
    let t = taken_out f x ys l in
    omega arith

-- from positions to pairs
total_from_front : (g : ℕ → ℕ) (n : ℕ) → total g 0 (suc n) ≡ g 0 + total (λ i. g (suc i)) 0 n
total_from_front g zero = omega arith
total_from_front g (suc n) =
    let r = total_from_front g n in
    let last : g (0 + suc n) ≡ g (suc (0 + n)) = ap g (omega arith) in
    omega arith

total_over_pairs : (f : ℕ → ℕ → ℕ) (ts vs : List ℕ) → length ts ≡ length vs
    → total (λ i. f (get_or ts i 0) (get_or vs i 0)) 0 (length ts) ≡ sum_over (λ p. f p.minute p.value) (paired ts vs)
unfolding sum_over paired
total_over_pairs f [] vs e = refl
total_over_pairs f (t ∷ ts) [] e = absurd (omega arith)
total_over_pairs f (t ∷ ts) (v ∷ vs) e =
    total_from_front (λ i. f (get_or (t ∷ ts) i 0) (get_or (v ∷ vs) i 0)) (length ts)
    ∙ ap (λ (n : ℕ). f t v + n) (total_over_pairs f ts vs (omega arith))

-- two records with the same edges
record SameEdges (q q' : RunningSums) : Type 0 where
  lefts : q.left ≡ q'.left
  rights : q.right ≡ q'.right

module _ (ts vs vs' : List ℕ) (r : Rearranged ts vs vs') where
  as_often_in_pairs : (z : Pair) → often z (paired ts vs) ≡ often z (paired ts vs')
  unfolding often is
  as_often_in_pairs z =
      let f : ℕ → ℕ → ℕ = λ t v. pick (eqb t z.minute && eqb v z.value) 1 0 in
      sym (total_over_pairs f ts vs r.even) ∙ r.as_often z.minute z.value ∙ total_over_pairs f ts vs' r.even'

  -- a sum over all readings of what goes by minute and value alone
  pub same_total : (f : ℕ → ℕ → ℕ)
      → total (λ i. f (get_or ts i 0) (get_or vs i 0)) 0 (length ts) ≡ total (λ i. f (get_or ts i 0) (get_or vs' i 0)) 0 (length ts)
  same_total f =
      total_over_pairs f ts vs r.even
      ∙ same_sums (λ p. f p.minute p.value) (paired ts vs) (paired ts vs') as_often_in_pairs
      ∙ sym (total_over_pairs f ts vs' r.even')

  same_sum : Ordered ts → (z h : ℕ) → sum_of ts vs z h ≡ sum_of ts vs' z h
  same_sum o z h = sum_of_all ts vs z h o ∙ same_total (λ t v. kernel z h t * v) ∙ sym (sum_of_all ts vs' z h o)

  same_estimate : Ordered ts → (z h : ℕ) → estimate ts vs z h ≡ estimate ts vs' z h
  unfolding estimate
  same_estimate o z h = rw (same_sum o z h)

  -- the checks look at no value
  same_evaluate_refusal : (L : Limits) (h : ℕ) → evaluate_refusal L ts vs h ≡ evaluate_refusal L ts vs' h
  same_evaluate_refusal L h = rw (← r.even, ← r.even')

  same_smooth_refusal : (L : Limits) (zs hs rs : List ℕ) → smooth_refusal L ts vs zs hs rs ≡ smooth_refusal L ts vs' zs hs rs
  same_smooth_refusal L zs hs rs = rw (← r.even, ← r.even')

  same_step_refusal : (left right h : ℕ) → first_of (advance_checks full ts vs left right h) ≡ first_of (advance_checks full ts vs' left right h)
  same_step_refusal left right h = rw (← r.even, ← r.even')

  -- nor does an edge of a record
  moved_edges : (q q' : RunningSums) (z h : ℕ) → SameEdges q q' → SameEdges (moved ts vs q z h) (moved ts vs' q' z h)
  unfolding moved
  moved_edges q q' z h s = record {
    lefts =
        ap (λ (n : ℕ). new_left ts n (new_right ts q.right z h) z h) s.lefts
        ∙ ap (λ (n : ℕ). new_left ts q'.left (new_right ts n z h) z h) s.rights;
    rights = ap (λ (n : ℕ). new_right ts n z h) s.rights;
  }

  step_edges : (q q' : RunningSums) (m : Move) → SameEdges q q' → SameEdges (after_step ts vs q m) (after_step ts vs' q' m)
  unfolding advance
  step_edges q q' m s = by (first_of (advance_checks full ts vs q.left q.right m.bandwidth)) refl
    where
      also : (f : Option Fault) → first_of (advance_checks full ts vs q.left q.right m.bandwidth) ≡ f
          → first_of (advance_checks full ts vs' q'.left q'.right m.bandwidth) ≡ f
      also f e =
          ap (λ (n : ℕ). first_of (advance_checks full ts vs' n q'.right m.bandwidth)) (sym s.lefts)
          ∙ ap (λ (n : ℕ). first_of (advance_checks full ts vs' q.left n m.bandwidth)) (sym s.rights)
          ∙ sym (same_step_refusal q.left q.right m.bandwidth)
          ∙ e

      by : (f : Option Fault) → first_of (advance_checks full ts vs q.left q.right m.bandwidth) ≡ f
          → SameEdges (after_step ts vs q m) (after_step ts vs' q' m)
      by None e = rw (e, also None e) (moved_edges q q' m.point m.bandwidth s)
      by (Some x) e = rw (e, also (Some x) e) s

  steps_edges : (ms : List Move) (q q' : RunningSums) → SameEdges q q' → SameEdges (after ts vs q ms) (after ts vs' q' ms)
  steps_edges [] q q' s = s
  steps_edges (m ∷ ms) q q' s = steps_edges ms (after_step ts vs q m) (after_step ts vs' q' m) (step_edges q q' m s)

  same_passes : (ms : List Move) → passes ts vs fresh ms ≡ passes ts vs' fresh ms
  same_passes ms =
      let s = steps_edges ms fresh fresh (record { lefts = refl; rights = refl }) in
      let a = passes_are_last_edges ts vs ms in
      let b = passes_are_last_edges ts vs' ms in
      omega (arith, s.lefts, s.rights)

  same_rows : Ordered ts → (zs hs : List ℕ) (n : ℕ) → rows ts vs zs hs n ≡ rows ts vs' zs hs n
  same_rows o zs hs zero = refl
  same_rows o zs hs (suc n) = rw (same_rows o zs hs n, same_estimate o (get_or zs n 0) (get_or hs n 0))

  same_evaluation : (L : Limits) (z h : ℕ) → evaluate L ts vs z h ≡ evaluate L ts vs' z h
  unfolding evaluate
  same_evaluation L z h = rw (← (same_evaluate_refusal L h)) (by (evaluate_refusal L ts vs h) refl)
    where
      by : (f : Option Fault) → evaluate_refusal L ts vs h ≡ f → unless f (estimate ts vs z h) ≡ unless f (estimate ts vs' z h)
      by None e =
          let a = none_of_both (series_checks L ts vs) (bandwidth_checks h) e in
          let o = sample_order_accepts ts (none_of_both (size_checks L ts vs) (sample_order_checks ts) a.0).1 in
          ap (λ (x : Estimate). unless None x) (same_estimate o z h)
      by (Some e) q = refl

  same_smooth : (L : Limits) (zs hs rs : List ℕ) → smooth L ts vs zs hs rs ≡ smooth L ts vs' zs hs rs
  unfolding smooth
  same_smooth L zs hs rs = rw (same_smooth_refusal L zs hs rs, same_passes (moves zs hs))

  same_rows_at_exit : (L : Limits) (zs hs rs : List ℕ) → smooth_rows L ts vs zs hs rs ≡ smooth_rows L ts vs' zs hs rs
  unfolding smooth_rows
  same_rows_at_exit L zs hs rs = rw (← (same_smooth_refusal L zs hs rs)) (by (smooth_refusal L ts vs zs hs rs) refl)
    where
      by : (f : Option Fault) → smooth_refusal L ts vs zs hs rs ≡ f
          → accepted_or f (rows ts vs zs hs (length zs)) rs ≡ accepted_or f (rows ts vs' zs hs (length zs)) rs
      by None e =
          let a = none_of_three L ts vs zs hs (uneven_rows row_width (length rs) (length zs)) e in
          let o = sample_order_accepts ts (none_of_both (sample_order_checks ts) (point_order_checks zs) a.1).0 in
          same_rows o zs hs (length zs)
      by (Some e) q = refl

  same_lines : Ordered ts → (zs hs : List ℕ) (n : ℕ)
      → curve_lines (record { minutes = ts; values = vs; points = zs; bandwidths = hs }) n
      ≡ curve_lines (record { minutes = ts; values = vs'; points = zs; bandwidths = hs }) n
  same_lines o zs hs zero = refl
  same_lines o zs hs (suc n) = rw (same_lines o zs hs n, same_estimate o (get_or zs n 0) (get_or hs n 0))

  same_text : Ordered ts → (zs hs : List ℕ)
      → curve_text (record { minutes = ts; values = vs; points = zs; bandwidths = hs })
      ≡ curve_text (record { minutes = ts; values = vs'; points = zs; bandwidths = hs })
  unfolding curve_text
  same_text o zs hs = rw (same_lines o zs hs (length zs), same_passes (moves zs hs))

  pub same_curves : SameCurves ts vs vs'
  same_curves = record {
    estimates = same_estimate;
    evaluations = same_evaluation;
    smooth_answers = same_smooth;
    rows_at_exit = same_rows_at_exit;
    texts = same_text;
  }

pub estimate_may_change_places : MayChangePlaces estimate
estimate_may_change_places ts vs vs' z h o r = same_estimate ts vs vs' r o z h
