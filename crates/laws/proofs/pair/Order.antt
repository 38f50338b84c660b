-- For fixed marks, "no higher" is the order of the two tanks' values by their first difference. So it is an order up to equal curves, and to
-- exchange the tanks is to exchange the answer.
use Prim.Native.Nat.{ℕ, ◌*◌, ◌<◌, zero-le}
use Rattle.meanings.specs.declared.pair.Parting.{Parting}
use mathlib.Core.Path.{◌≡◌, refl, sym, ap, ◌∙◌}
use mathlib.Core.Logic.{◌⊎◌, inl, inr, ◌↔◌}
use mathlib.Core.Bool.{true, false}
use mathlib.Core.List.{List}
use Rattle.std.specs.Prelude.{Option, None, Some}
use native.Mathlib.Omega.{arith}
use borrow.Author.Tests.{le-ltb, ne_eqb}
use lib.ListN.{length, get_or, drop}
use lib.Seq.{get_or-take, get_or-drop}
use Rattle.meanings.specs.declared.Limits.{Limits}
use Rattle.meanings.specs.Limits.{full, LimitsWithin, max_u16, row_width}
use Rattle.meanings.specs.Lists.{AtMost, lowest}
use Rattle.meanings.specs.Reports.{Fault, Answer, given, unless, first_of, size_checks, sample_order_checks, series_checks}
use Rattle.meanings.specs.Reports.{uneven_rows, point_order_checks, windows_checks, curve_checks, smooth_checks}
use Rattle.meanings.specs.Estimate.{estimate, rows}
use Rattle.meanings.proofs.Checks.{none_of_both, none_holds, first_of_rest, differ_same, differ_false, differ_true, size_accepts, curve_sizes_accept}
use Rattle.meanings.proofs.Search.{lowest_none, lowest_some, none_lowest, lowest_at}
use Rattle.meanings.proofs.SmoothSteps.{none_of_three}
use Rattle.meanings.proofs.SmoothRows.{row_at_point}
use Rattle.meanings.specs.declared.pair.Tank.{Tank}
use Rattle.meanings.specs.declared.pair.Tank.TheVariants.{First, Second}
use Rattle.meanings.specs.pair.Comparison.{of_tank, unlike, unlike_at, parting_at, parted, tank_in, second_checks, compare_refusal, compare}
use Rattle.meanings.specs.pair.Order.{NoHigher, exchanged, SameValues, position_in, value_field, RowsPartAt}
use Rattle.meanings.proofs.Accepted.{PairAccepted, none_earned, pair_accepts}
use Rattle.laws.proofs.pair.Ranks.{Ranked, row_ranked, first_by_number, second_by_number}
use Rattle.laws.proofs.pair.Sequences.{AgreeBelow, NotAbove, agrees, below, differ_apart, not_above_itself, not_above_trans}
use Rattle.laws.proofs.pair.Sequences.{not_above_total, not_above_both}

-- the value at each mark
abbrev pub values_at : List ℕ → List ℕ → List ℕ → List ℕ → ℕ → ℕ
values_at ts vs zs hs k = (estimate ts vs (get_or zs k 0) (get_or hs k 0)).value

-- a tank fit for the marks
abbrev pub FitTank : Limits → List ℕ → List ℕ → List ℕ → List ℕ → Type 0
FitTank L ts vs zs hs = first_of (curve_checks L ts vs zs hs false) ≡ None

module _ (L : Limits) (zs hs : List ℕ) where
  -- marks that are fit with one tank are fit with another whose own lists earn nothing
  pub fit_by_own_lists : (ts vs us ws : List ℕ) → FitTank L ts vs zs hs → first_of (series_checks L us ws) ≡ None → FitTank L us ws zs hs
  fit_by_own_lists ts vs us ws f s =
      let a = none_of_three L ts vs zs hs false f in
      let z = curve_sizes_accept L ts vs zs hs false a.0 in
      let own = none_of_both (size_checks L us ws) (sample_order_checks us) s in
      let u = size_accepts L us ws own.0 in
      let ordered = (none_holds (sample_order_checks us) own.1).0 in
      let points = (none_holds (point_order_checks zs) (none_of_both (sample_order_checks ts) (point_order_checks zs) a.1).1).0 in
      let windows = none_holds (windows_checks zs hs) a.2 in
      rw (
        differ_same _ _ u.even,
        differ_same _ _ z.even_points,
        le-ltb _ _ u.few,
        le-ltb _ _ z.few_points,
        ne_eqb (length zs) 0 (λ (e : length zs ≡ 0). omega (arith, z.some_point)),
        ordered,
        points,
        windows.0,
        windows.1.0,
      )

  -- its own lists earn nothing where it is fit
  pub own_lists_fit : (us ws : List ℕ) → FitTank L us ws zs hs → first_of (series_checks L us ws) ≡ None
  own_lists_fit us ws f =
      let a = none_of_three L us ws zs hs false f in
      let z = curve_sizes_accept L us ws zs hs false a.0 in
      let ordered = (none_holds (sample_order_checks us) (none_of_both (sample_order_checks us) (point_order_checks zs) a.1).0).0 in
      rw (differ_same _ _ z.even, le-ltb _ _ z.few, ordered)

  -- the comparison refuses nothing exactly if both tanks are fit
  pub both_fit : (ts vs us ws : List ℕ) → compare_refusal L ts vs us ws zs hs ≡ None → FitTank L ts vs zs hs × FitTank L us ws zs hs
  both_fit ts vs us ws e =
      let b = none_of_both (curve_checks L ts vs zs hs false) (second_checks L us ws) e in
      (b.0, fit_by_own_lists ts vs us ws b.0 (none_earned L us ws b.1))

  pub fit_compared : (ts vs us ws : List ℕ) → FitTank L ts vs zs hs → FitTank L us ws zs hs → compare_refusal L ts vs us ws zs hs ≡ None
  fit_compared ts vs us ws f g =
      first_of_rest (curve_checks L ts vs zs hs false) (second_checks L us ws) f ∙ rw (own_lists_fit us ws g)

-- a tank that a sweep accepts is fit for its marks
pub fit_by_sweep : (L : Limits) (ts vs zs hs : List ℕ) (rows : ℕ) → first_of (smooth_checks L ts vs zs hs rows) ≡ None → FitTank L ts vs zs hs
fit_by_sweep L ts vs zs hs rows e =
    rw (← (curve_sizes_accept L ts vs zs hs (uneven_rows row_width rows (length zs))
    (none_of_three L ts vs zs hs (uneven_rows row_width rows (length zs)) e).0).no_more) e

-- what the answer is: alike with equal values, or a first difference and which way it goes
pub data Outcome (L : Limits) (ts vs us ws zs hs : List ℕ) : Type 0 where
  alike : compare L ts vs us ws zs hs ≡ given None → AgreeBelow (values_at ts vs zs hs) (values_at us ws zs hs) (length zs)
      → Outcome L ts vs us ws zs hs
  second_higher : (k : ℕ) → compare L ts vs us ws zs hs ≡ given (Some (record { position = k; higher = Second })) → k < length zs
      → AgreeBelow (values_at ts vs zs hs) (values_at us ws zs hs) k → values_at ts vs zs hs k < values_at us ws zs hs k
      → Outcome L ts vs us ws zs hs
  first_higher : (k : ℕ) → compare L ts vs us ws zs hs ≡ given (Some (record { position = k; higher = First })) → k < length zs
      → AgreeBelow (values_at ts vs zs hs) (values_at us ws zs hs) k → values_at us ws zs hs k < values_at ts vs zs hs k
      → Outcome L ts vs us ws zs hs

-- rows of fit tanks whose values have 16 bits
module _ (L : Limits) (within : LimitsWithin L full) (ts vs us ws zs hs : List ℕ) (v : AtMost max_u16 vs) (w : AtMost max_u16 ws)
    (fit : compare_refusal L ts vs us ws zs hs ≡ None) where
  accepted : PairAccepted ts vs us ws zs hs
  accepted = pair_accepts L within ts vs us ws zs hs fit

  first_ranked : (k : ℕ) → k < length zs → Ranked (estimate ts vs (get_or zs k 0) (get_or hs k 0))
  first_ranked k l =
      let a = accepted.first in
      row_ranked ts vs (get_or zs k 0) (get_or hs k 0)
      (record { even = a.even; few = a.few; values = v; bandwidth = (a.bandwidths k l).1 })

  second_ranked : (k : ℕ) → k < length zs → Ranked (estimate us ws (get_or zs k 0) (get_or hs k 0))
  second_ranked k l =
      let a = accepted.second in
      row_ranked us ws (get_or zs k 0) (get_or hs k 0)
      (record { even = a.even; few = a.few; values = w; bandwidth = (a.bandwidths k l).1 })

  same_there : (k : ℕ) → unlike_at ts vs us ws zs hs k ≡ false → values_at ts vs zs hs k ≡ values_at us ws zs hs k
  unfolding unlike_at unlike
  same_there k e = differ_false _ _ e

  other_there : (k : ℕ) → unlike_at ts vs us ws zs hs k ≡ true
      → (values_at ts vs zs hs k < values_at us ws zs hs k) ⊎ (values_at us ws zs hs k < values_at ts vs zs hs k)
  unfolding unlike_at unlike
  other_there k e = differ_apart _ _ e

  fit_answer : {o : Option ℕ} → lowest (unlike_at ts vs us ws zs hs) (length zs) ≡ o
      → compare L ts vs us ws zs hs ≡ given (parting_at ts vs us ws zs hs o)
  unfolding compare
  fit_answer q = rw (fit, q)

  -- equal values are alike
  pub alike_by_values : AgreeBelow (values_at ts vs zs hs) (values_at us ws zs hs) (length zs) → compare L ts vs us ws zs hs ≡ given None
  unfolding unlike_at unlike
  alike_by_values same =
      fit_answer (none_lowest (unlike_at ts vs us ws zs hs) (length zs) (λ j l. differ_same _ _ (same j l)))

  -- the first difference is the parting, and the greater number is the higher tank's
  module _ (k : ℕ) (l : k < length zs) (same : AgreeBelow (values_at ts vs zs hs) (values_at us ws zs hs) k) where
    apart_by_values : ¬ (values_at ts vs zs hs k ≡ values_at us ws zs hs k)
        → compare L ts vs us ws zs hs ≡ given (parting_at ts vs us ws zs hs (Some k))
    unfolding unlike_at unlike
    apart_by_values other =
        fit_answer
        (lowest_at (unlike_at ts vs us ws zs hs) (length zs) k l (differ_true _ _ other) (λ j m. differ_same _ _ (same j m)))

    pub second_by_values : values_at ts vs zs hs k < values_at us ws zs hs k
        → compare L ts vs us ws zs hs ≡ given (Some (record { position = k; higher = Second }))
    second_by_values b =
        apart_by_values (λ e. omega arith)
        ∙ ap (λ (t : Tank). given (Some (record { position = k; higher = t })))
        (second_by_number _ _ (first_ranked k l) (second_ranked k l) b)

    pub first_by_values : values_at us ws zs hs k < values_at ts vs zs hs k
        → compare L ts vs us ws zs hs ≡ given (Some (record { position = k; higher = First }))
    first_by_values b =
        apart_by_values (λ e. omega arith)
        ∙ ap (λ (t : Tank). given (Some (record { position = k; higher = t })))
        (first_by_number _ _ (first_ranked k l) (second_ranked k l) b)

  pub outcome : Outcome L ts vs us ws zs hs
  outcome = by (lowest (unlike_at ts vs us ws zs hs) (length zs)) refl
    where
      by : (o : Option ℕ) → lowest (unlike_at ts vs us ws zs hs) (length zs) ≡ o → Outcome L ts vs us ws zs hs
      by None q = alike (fit_answer q) (λ j l. same_there j (lowest_none (unlike_at ts vs us ws zs hs) (length zs) q j l))
      by (Some k) q =
          let f = lowest_some (unlike_at ts vs us ws zs hs) (length zs) k q in
          at k f.0 (λ j l. same_there j (f.1.before j zero-le l)) (other_there k (f.1.there (omega (arith, f.0))))
        where
          at : (k : ℕ) → k < length zs → AgreeBelow (values_at ts vs zs hs) (values_at us ws zs hs) k
              → (values_at ts vs zs hs k < values_at us ws zs hs k) ⊎ (values_at us ws zs hs k < values_at ts vs zs hs k)
              → Outcome L ts vs us ws zs hs
          at k l same (inl b) = second_higher k (second_by_values k l same b) l same b
          at k l same (inr b) = first_higher k (first_by_values k l same b) l same b

-- no higher is not above, by values
module _ (L : Limits) (ts vs us ws zs hs : List ℕ) where
  pub no_higher_values : Outcome L ts vs us ws zs hs → NoHigher (compare L ts vs us ws zs hs)
      → NotAbove (values_at ts vs zs hs) (values_at us ws zs hs) (length zs)
  no_higher_values (alike e s) n = agrees s
  no_higher_values (second_higher k e l s b) n = below k l s b
  no_higher_values (first_higher k e l s b) n = absurd (never (rw e at n))
    where
      never : First ≡ Second → ⊥
      never q = let z : ◌≡◌ {A = ℕ} 0 1 = ap (λ (t : Tank). of_tank t 0 1) q in omega arith

  pub values_no_higher : Outcome L ts vs us ws zs hs → NotAbove (values_at ts vs zs hs) (values_at us ws zs hs) (length zs)
      → NoHigher (compare L ts vs us ws zs hs)
  values_no_higher (alike e s) n = rw e tt
  values_no_higher (second_higher k e l s b) n = rw e refl
  values_no_higher (first_higher k e l s b) n = absurd (greater_not_below k l s b n)
    where
      greater_not_below : (k : ℕ) → k < length zs → AgreeBelow (values_at ts vs zs hs) (values_at us ws zs hs) k
          → values_at us ws zs hs k < values_at ts vs zs hs k → NotAbove (values_at ts vs zs hs) (values_at us ws zs hs) (length zs) → ⊥
      greater_not_below k l s b n =
          let e = not_above_both (values_at ts vs zs hs) (values_at us ws zs hs) (length zs) n (below k l (λ j m. sym (s j m)) b) k l in
          omega arith

-- an answer that is no refusal was not refused
no_higher_fits : (f : Option Fault) (o : Option Parting) → NoHigher (unless f o) → f ≡ None
no_higher_fits None o n = refl
no_higher_fits (Some e) o n = absurd n

-- the order, of the answers, for fixed marks and values of 16 bits
module _ (L : Limits) (within : LimitsWithin L full) (zs hs : List ℕ) where
  pub no_higher_fit : (ts vs us ws : List ℕ) → NoHigher (compare L ts vs us ws zs hs) → compare_refusal L ts vs us ws zs hs ≡ None
  unfolding compare
  no_higher_fit ts vs us ws n = no_higher_fits (compare_refusal L ts vs us ws zs hs) (parted ts vs us ws zs hs) n

  pub no_higher_reflexive : (ts vs : List ℕ) → AtMost max_u16 vs → FitTank L ts vs zs hs → NoHigher (compare L ts vs ts vs zs hs)
  no_higher_reflexive ts vs v f =
      values_no_higher L ts vs ts vs zs hs (outcome L within ts vs ts vs zs hs v v (fit_compared L zs hs ts vs ts vs f f))
      (not_above_itself (values_at ts vs zs hs) (length zs))

  pub no_higher_total : (ts vs us ws : List ℕ) → AtMost max_u16 vs → AtMost max_u16 ws → FitTank L ts vs zs hs → FitTank L us ws zs hs
      → NoHigher (compare L ts vs us ws zs hs) ⊎ NoHigher (compare L us ws ts vs zs hs)
  no_higher_total ts vs us ws v w f g = by (not_above_total (values_at ts vs zs hs) (values_at us ws zs hs) (length zs))
    where
      by : NotAbove (values_at ts vs zs hs) (values_at us ws zs hs) (length zs) ⊎ NotAbove (values_at us ws zs hs) (values_at ts vs zs hs) (length zs)
          → NoHigher (compare L ts vs us ws zs hs) ⊎ NoHigher (compare L us ws ts vs zs hs)
      by (inl n) = inl (values_no_higher L ts vs us ws zs hs (outcome L within ts vs us ws zs hs v w (fit_compared L zs hs ts vs us ws f g)) n)
      by (inr n) = inr (values_no_higher L us ws ts vs zs hs (outcome L within us ws ts vs zs hs w v (fit_compared L zs hs us ws ts vs g f)) n)

  pub no_higher_transitive : (ts vs us ws xs ys : List ℕ) → AtMost max_u16 vs → AtMost max_u16 ws → AtMost max_u16 ys
      → NoHigher (compare L ts vs us ws zs hs) → NoHigher (compare L us ws xs ys zs hs) → NoHigher (compare L ts vs xs ys zs hs)
  no_higher_transitive ts vs us ws xs ys v w y n m =
      let f = no_higher_fit ts vs us ws n in
      let g = no_higher_fit us ws xs ys m in
      values_no_higher L ts vs xs ys zs hs
      (outcome L within ts vs xs ys zs hs v y (fit_compared L zs hs ts vs xs ys (both_fit L zs hs ts vs us ws f).0 (both_fit L zs hs us ws xs ys g).1))
      (not_above_trans (values_at ts vs zs hs) (values_at us ws zs hs) (values_at xs ys zs hs) (length zs)
      (no_higher_values L ts vs us ws zs hs (outcome L within ts vs us ws zs hs v w f) n)
      (no_higher_values L us ws xs ys zs hs (outcome L within us ws xs ys zs hs w y g) m))

  pub no_higher_both : (ts vs us ws : List ℕ) → AtMost max_u16 vs → AtMost max_u16 ws → FitTank L ts vs zs hs → FitTank L us ws zs hs
      → (NoHigher (compare L ts vs us ws zs hs) × NoHigher (compare L us ws ts vs zs hs)) ↔ SameValues ts vs us ws zs hs
  no_higher_both ts vs us ws v w f g = (
    λ b.
        not_above_both (values_at ts vs zs hs) (values_at us ws zs hs) (length zs)
        (no_higher_values L ts vs us ws zs hs forth b.0)
        (no_higher_values L us ws ts vs zs hs back b.1),
    λ s. (
      values_no_higher L ts vs us ws zs hs forth (agrees s),
      values_no_higher L us ws ts vs zs hs back (agrees (λ j l. sym (s j l))),
    ),
  )
    where
      forth : Outcome L ts vs us ws zs hs
      forth = outcome L within ts vs us ws zs hs v w (fit_compared L zs hs ts vs us ws f g)

      back : Outcome L us ws ts vs zs hs
      back = outcome L within us ws ts vs zs hs w v (fit_compared L zs hs us ws ts vs g f)

  -- where both tanks are fit, exchanged tanks are accepted, with the exchanged answer
  pub exchanged_answer : (ts vs us ws : List ℕ) → AtMost max_u16 vs → AtMost max_u16 ws → compare_refusal L ts vs us ws zs hs ≡ None
      → (compare_refusal L us ws ts vs zs hs ≡ None) × (compare L us ws ts vs zs hs ≡ exchanged (compare L ts vs us ws zs hs))
  exchanged_answer ts vs us ws v w fit = (fit_back, by (outcome L within ts vs us ws zs hs v w fit))
    where
      fit_back : compare_refusal L us ws ts vs zs hs ≡ None
      fit_back = let b = both_fit L zs hs ts vs us ws fit in fit_compared L zs hs us ws ts vs b.1 b.0

      by : Outcome L ts vs us ws zs hs → compare L us ws ts vs zs hs ≡ exchanged (compare L ts vs us ws zs hs)
      by (alike e s) = alike_by_values L within us ws ts vs zs hs w v fit_back (λ j l. sym (s j l)) ∙ sym (ap exchanged e)
      by (second_higher k e l s b) =
          first_by_values L within us ws ts vs zs hs w v fit_back k l (λ j m. sym (s j m)) b ∙ sym (ap exchanged e)
      by (first_higher k e l s b) =
          second_by_values L within us ws ts vs zs hs w v fit_back k l (λ j m. sym (s j m)) b ∙ sym (ap exchanged e)

abbrev position_or_0 : Option ℕ → ℕ
position_or_0 None = 0
position_or_0 (Some k) = k

-- by the rows of two sweeps: the tanks part at k exactly if the value fields agree before k and differ there
row_value : (ts vs zs hs : List ℕ) (k : ℕ) → k < length zs → value_field (rows ts vs zs hs (length zs)) k ≡ values_at ts vs zs hs k
row_value ts vs zs hs k l =
    sym (get_or-drop (row_width * k) (rows ts vs zs hs (length zs)) 4 0)
    ∙ sym (get_or-take row_width (drop (row_width * k) (rows ts vs zs hs (length zs))) 4 0 (omega arith))
    ∙ ap (λ (xs : List ℕ). get_or xs 4 0) (row_at_point ts vs zs hs (length zs) k l)

pub parts_by_rows : (L : Limits) → LimitsWithin L full → (ts vs us ws zs hs : List ℕ) → AtMost max_u16 vs → AtMost max_u16 ws
    → compare_refusal L ts vs us ws zs hs ≡ None → (k : ℕ)
    → (position_in (compare L ts vs us ws zs hs) ≡ Some k)
    ↔ RowsPartAt (rows ts vs zs hs (length zs)) (rows us ws zs hs (length zs)) (length zs) k
parts_by_rows L within ts vs us ws zs hs v w fit k = (λ e. there (outcome L within ts vs us ws zs hs v w fit) e, back)
  where
    apart : (m : ℕ) → m < length zs → AgreeBelow (values_at ts vs zs hs) (values_at us ws zs hs) m
        → ¬ (values_at ts vs zs hs m ≡ values_at us ws zs hs m) → Some m ≡ Some k
        → RowsPartAt (rows ts vs zs hs (length zs)) (rows us ws zs hs (length zs)) (length zs) k
    apart m l s n e =
        let q : m ≡ k = ap (λ (o : Option ℕ). position_or_0 o) e in
        rw (← q)
        (record {
          inside = l;
          before = λ j i. row_value ts vs zs hs j (omega arith) ∙ s j i ∙ sym (row_value us ws zs hs j (omega arith));
          there = λ d. n (sym (row_value ts vs zs hs m l) ∙ d ∙ row_value us ws zs hs m l);
        })

    there : Outcome L ts vs us ws zs hs → position_in (compare L ts vs us ws zs hs) ≡ Some k
        → RowsPartAt (rows ts vs zs hs (length zs)) (rows us ws zs hs (length zs)) (length zs) k
    there (alike c s) e = let o : None ≡ Some k = sym (ap position_in c) ∙ e in let z : ◌≡◌ {A = ℕ} 0 1 = cc in absurd (omega arith)
    there (second_higher m c l s b) e = apart m l s (λ d. omega arith) (sym (ap position_in c) ∙ e)
    there (first_higher m c l s b) e = apart m l s (λ d. omega arith) (sym (ap position_in c) ∙ e)

    back : RowsPartAt (rows ts vs zs hs (length zs)) (rows us ws zs hs (length zs)) (length zs) k
        → position_in (compare L ts vs us ws zs hs) ≡ Some k
    back p =
        ap position_in
        (apart_by_values L within ts vs us ws zs hs v w fit k p.inside
        (λ j i. sym (row_value ts vs zs hs j (omega (arith, p.inside))) ∙ p.before j i ∙ row_value us ws zs hs j (omega (arith, p.inside)))
        (λ d. p.there (row_value ts vs zs hs k p.inside ∙ d ∙ sym (row_value us ws zs hs k p.inside))))

-- and there the greater number is the higher tank's, that of a missing value above all others
pub higher_by_rows : (L : Limits) → LimitsWithin L full → (ts vs us ws zs hs : List ℕ) → AtMost max_u16 vs → AtMost max_u16 ws
    → compare_refusal L ts vs us ws zs hs ≡ None → (k : ℕ) (t : Tank)
    → compare L ts vs us ws zs hs ≡ given (Some (record { position = k; higher = t }))
    → (t ≡ First) ↔ (value_field (rows us ws zs hs (length zs)) k < value_field (rows ts vs zs hs (length zs)) k)
higher_by_rows L within ts vs us ws zs hs v w fit k t c = by (outcome L within ts vs us ws zs hs v w fit)
  where
    by : Outcome L ts vs us ws zs hs
        → (t ≡ First) ↔ (value_field (rows us ws zs hs (length zs)) k < value_field (rows ts vs zs hs (length zs)) k)
    by (alike e s) = let o : None ≡ Some k = sym (ap position_in e) ∙ ap position_in c in let z : ◌≡◌ {A = ℕ} 0 1 = cc in absurd (omega arith)
    by (second_higher m e l s b) =
        let k_is : m ≡ k = ap (λ (a : Answer (Option Parting)). position_or_0 (position_in a)) (sym e ∙ c) in
        let t_is : Second ≡ t = ap tank_in (sym e ∙ c) in
        rw (← k_is) (
          λ q. let z : ◌≡◌ {A = ℕ} 1 0 = ap (λ (u : Tank). of_tank u 0 1) (t_is ∙ q) in absurd (omega arith),
          λ d. absurd (omega (arith, row_value ts vs zs hs m l, row_value us ws zs hs m l)),
        )
    by (first_higher m e l s b) =
        let k_is : m ≡ k = ap (λ (a : Answer (Option Parting)). position_or_0 (position_in a)) (sym e ∙ c) in
        rw (← k_is) (
          λ q. omega (arith, row_value ts vs zs hs m l, row_value us ws zs hs m l),
          λ d. sym (ap tank_in (sym e ∙ c)),
        )
