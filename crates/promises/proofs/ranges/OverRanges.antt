-- The call's contract with the laws of its meaning: answer and rows are those of the meaning, and the plain sweep's are those of its own.
use Prim.Native.Nat.{ℕ, zero, suc, ◌+◌, ◌*◌, ◌≤◌, ◌<◌, zero-le}
use Rattle.std.specs.Prelude.{Result, Ok, Err}
use Rattle.meanings.specs.declared.Refusal.{Refusal}
use Rattle.meanings.specs.Calls.{answer_of}
use mathlib.Core.Path.{◌≡◌, refl, sym, ap, subst, ◌∙◌}
use mathlib.Core.Bool.{Bool, true, false, true≢false, ◌||◌}
use mathlib.Core.List.{List, [], ◌∷◌}
use Rattle.std.specs.Prelude.{Option, None, Some}
use native.Mathlib.Nat.{le_refl, add-zero}
use native.Mathlib.Omega.{arith}
use borrow.Author.Tests.{ltb-true, lt-ltb, le-ltb}
use lib.ListN.{length, get_or, take, drop, replicate, length-replicate}
use lib.Seq.{get_or-take, get_or-drop}
use Rattle.meanings.specs.declared.Estimate.{Estimate}
use Rattle.meanings.specs.Limits.{full, max_u16, max_bandwidth, row_width}
use Rattle.meanings.specs.Lists.{AtMost, lowest}
use Rattle.meanings.specs.Moves.{moves}
use Rattle.meanings.specs.Reports.{Fault, given, refused, unless, accepted_or, uneven_samples, uneven_rows}
use Rattle.meanings.specs.Reports as reports
use Rattle.meanings.specs.Estimate.{missing, estimate, rows}
use Rattle.meanings.specs.Running.{fresh, passes}
use Rattle.meanings.specs.Claim.{refusal}
use Rattle.meanings.specs.Calls.{smooth, smooth_refusal, smooth_rows}
use Rattle.meanings.specs.Codes.{detail_unit, answered}
use Rattle.meanings.specs.PublishedRow.{PublishedRow}
use Rattle.meanings.proofs.Checks.{same_limits, given_accepted, differ_false, differ_same}
use Rattle.meanings.proofs.Search.{none_lowest}
use Rattle.meanings.proofs.SmoothSteps.{CurveAccepted}
use Rattle.meanings.proofs.PublishedRows.{published_row}
use Rattle.meanings.proofs.SmoothRows.{row_at_point}
use Rattle.meanings.proofs.SmoothLog.{smooth_passes}
use Rattle.meanings.specs.declared.ranges.RangeEstimate.{RangeEstimate}
use Rattle.meanings.specs.ranges.Ranges.{range_estimate, range_row_width, range_fields, range_rows, crossed, range_checks}
use Rattle.meanings.specs.ranges.Ranges.{range_refusal, smooth_ranges, smooth_ranges_rows}
use Rattle.meanings.specs.ranges.RangeLaws.{Choice, LiesWithin, MissingTogether}
use Rattle.meanings.proofs.RangesCases.{range_cases_hold}
use Rattle.meanings.proofs.Within.{row_lies_within, missing_together, lows_small, lows_chosen, highs_chosen}
use Rattle.meanings.proofs.Sweeps.{RangesAccepted, ranges_accept, range_rows_length, range_row_at_point, lows_accepted, highs_accepted}
use Rattle.meanings.proofs.Sweeps.{plain_accepts, plain_passes}
use Rattle.regression.proofs.ranges.smooth_ranges.Met as ranges_met
use Rattle.exports.proofs.ranges.tankcurve_smooth_ranges.Met as exported_met
use Rattle.laws.specs.rows.AmongReadings.{Among}
use Rattle.laws.specs.rows.Rearranged.{Rearranged}
use Rattle.laws.proofs.rows.AmongReadings.{estimate_among}
use Rattle.laws.proofs.rows.Rearranged.{same_curves}
use Rattle.text.specs.Table.{stored_row}
use Rattle.text.specs.RangeTable.{stored_range_row}
use Rattle.promises.specs.Demands.{log_passes}
use Rattle.promises.specs.conditions.Conditions.{FirstFault, RefusedExactly, code_refusal}
use Rattle.promises.proofs.conditions.CallChecks.{Decides, none_left, curve_size_finds, order_finds, bandwidth_list_finds, edge_finds}
use Rattle.promises.proofs.conditions.FirstFaults.{Finds, FindAll, lowest_finds}
use Rattle.promises.proofs.conditions.Refusals.{decided_exactly, decided_stays, exported_refusal, exported_stays, first_numbered, accepted_given}
use Rattle.promises.proofs.Rows.{five_are_row}
use Rattle.promises.specs.ranges.OverRanges.{CrossedAt, range_conditions, low_row, high_row, twice, RowsWithin, SweptRanges}
use Rattle.promises.specs.ranges.OverRanges.{EveryRangesTaken, OverRanges}

-- ---- what the checks find
module _ (ts ls us zs hs : List ℕ) (n : ℕ) where
  fit_decides : Decides (uneven_samples ts us || uneven_rows range_row_width n (length zs))
      (¬ ((length ts ≡ length us) × (n ≡ range_row_width * length zs)))
  fit_decides = by (uneven_samples ts us) (uneven_rows range_row_width n (length zs)) refl refl
    where
      by : (a b : Bool) → uneven_samples ts us ≡ a → uneven_rows range_row_width n (length zs) ≡ b
          → Decides (a || b) (¬ ((length ts ≡ length us) × (n ≡ range_row_width * length zs)))
      by true b e f = record { holds = λ q k. true≢false (sym e ∙ differ_same _ _ k.0); fails = λ q. absurd (true≢false q) }
      by false true e f = record { holds = λ q k. true≢false (sym f ∙ differ_same _ _ k.1); fails = λ q. absurd (true≢false q) }
      by false false e f = record { holds = λ q. absurd (true≢false (sym q)); fails = λ q k. k (differ_false _ _ e, differ_false _ _ f) }

  crossed_finds : Finds (reports.check 15 (lowest (crossed ls us) (length ls))) 15 (CrossedAt ls us)
  crossed_finds =
      lowest_finds 15 (crossed ls us) (length ls) (CrossedAt ls us) (λ i l e. record { within = l; crosses = ltb-true _ _ e })
      (λ i a. (a.within, lt-ltb _ _ a.crosses))

  finds : FindAll (range_checks full ts ls us zs hs n) (range_conditions ts ls us zs hs n)
  finds =
      let order = (order_finds ts zs none_left).each in
      let windows = bandwidth_list_finds max_bandwidth hs (edge_finds zs hs none_left) in
      curve_size_finds full ts ls zs hs (uneven_samples ts us || uneven_rows range_row_width n (length zs))
      ((length ts ≡ length us) × (n ≡ range_row_width * length zs)) fit_decides
      (record { each = (order.0, (crossed_finds, (order.1.0, windows.each))) })

-- ---- rows
seven_at : (rs : List ℕ) (k : ℕ) (r : RangeEstimate) → take range_row_width (drop (range_row_width * k) rs) ≡ range_fields r → (j : ℕ)
    → j < range_row_width → get_or rs (range_row_width * k + j) 0 ≡ get_or (range_fields r) j 0
seven_at rs k r q j l =
    sym (get_or-take range_row_width (drop (range_row_width * k) rs) j 0 l ∙ get_or-drop (range_row_width * k) rs j 0)
    ∙ ap (λ (t : List ℕ). get_or t j 0) q

-- seven numbers of a sweep's rows are a row
pub seven_are_row : (rs : List ℕ) (k : ℕ) (r : RangeEstimate) → take range_row_width (drop (range_row_width * k) rs) ≡ range_fields r
    → stored_range_row rs k ≡ r
seven_are_row rs k r q = λ i. record {
  left = (ap (λ (n : ℕ). get_or rs n 0) (sym (add-zero (range_row_width * k))) ∙ seven_at rs k r q 0 (omega arith)) i;
  right = seven_at rs k r q 1 (omega arith) i;
  weight = seven_at rs k r q 2 (omega arith) i;
  sum = record { low = seven_at rs k r q 3 (omega arith) i; high = seven_at rs k r q 4 (omega arith) i };
  value = record { low = seven_at rs k r q 5 (omega arith) i; high = seven_at rs k r q 6 (omega arith) i };
}

pub low_row_is : (ts ls us : List ℕ) (z h : ℕ) → low_row (range_estimate ts ls us z h) ≡ estimate ts ls z h
unfolding range_estimate estimate
low_row_is ts ls us z h = refl

pub high_row_is : (ts ls us : List ℕ) (z h : ℕ) → high_row (range_estimate ts ls us z h) ≡ estimate ts us z h
unfolding range_estimate estimate
high_row_is ts ls us z h = refl

twice_is : (ts vs : List ℕ) (z h : ℕ) → range_estimate ts vs vs z h ≡ twice (estimate ts vs z h)
unfolding range_estimate
twice_is ts vs z h = refl

-- a curve's mark is a question that is accepted
published : (ts vs zs hs : List ℕ) (k : ℕ) → CurveAccepted ts vs zs hs → AtMost max_u16 vs → k < length zs
    → PublishedRow ts vs (get_or zs k 0) (get_or hs k 0) (estimate ts vs (get_or zs k 0) (get_or hs k 0))
published ts vs zs hs k a v l =
    let b = a.bandwidths k l in
    published_row ts vs (get_or zs k 0) (get_or hs k 0) v
    (record { even = a.even; few = a.few; ordered = a.ordered; positive = b.0; bandwidth = b.1 })

-- a list for the rows of a plain sweep
abbrev room : List ℕ → List ℕ
room zs = replicate (row_width * length zs) 0

-- ---- an accepted call
module _ (ts ls us zs hs rs : List ℕ) (n : ℕ) (q : smooth_ranges full ts ls us zs hs rs ≡ given n) where
  pub free : range_refusal full ts ls us zs hs rs ≡ None
  unfolding smooth_ranges
  free = (given_accepted (range_refusal full ts ls us zs hs rs) (passes ts ls fresh (moves zs hs)) n q).0

  rows_are : smooth_ranges_rows full ts ls us zs hs rs ≡ range_rows ts ls us zs hs (length zs)
  unfolding smooth_ranges_rows
  rows_are = ap (λ (o : Option Fault). accepted_or o (range_rows ts ls us zs hs (length zs)) rs) free

  pub found : RangesAccepted full ts ls us zs hs rs
  found = ranges_accept full ts ls us zs hs rs free

  module _ (rs' : List ℕ) (e : rs' ≡ smooth_ranges_rows full ts ls us zs hs rs) where
    pub row_is : (k : ℕ) → k < length zs → stored_range_row rs' k ≡ range_estimate ts ls us (get_or zs k 0) (get_or hs k 0)
    row_is k l =
        ap (λ (r : List ℕ). stored_range_row r k) (e ∙ rows_are)
        ∙ seven_are_row (range_rows ts ls us zs hs (length zs)) k _ (range_row_at_point ts ls us zs hs (length zs) k l)

    -- a plain sweep with values in the ranges and room for its rows
    module _ (vs : List ℕ) (c : Choice ls us vs) (rs₀ : List ℕ) (fits : length rs₀ ≡ row_width * length zs) where
      plain_row_is : (rs'' : List ℕ) → rs'' ≡ smooth_rows full ts vs zs hs rs₀ → (k : ℕ) → k < length zs
          → stored_row rs'' k ≡ estimate ts vs (get_or zs k 0) (get_or hs k 0)
      unfolding smooth_rows
      plain_row_is rs'' x k l =
          let none_holds = plain_accepts full (same_limits full) ts ls us zs hs rs free vs c rs₀ fits in
          let all : rs'' ≡ rows ts vs zs hs (length zs) = x ∙ ap (λ (o : Option Fault). accepted_or o (rows ts vs zs hs (length zs)) rs₀) none_holds in
          ap (λ (r : List ℕ). stored_row r k) all ∙ five_are_row (rows ts vs zs hs (length zs)) k _ (row_at_point ts vs zs hs (length zs) k l)

      module _ (minutes : AtMost max_u16 ts) (highs : AtMost max_u16 us) where
        plain_answer : smooth full ts vs zs hs rs₀ ≡ given n
        plain_answer = plain_passes full (same_limits full) ts ls us zs hs rs free vs c minutes highs rs₀ fits ∙ q

        plain_rows_within : (rs'' : List ℕ) → rs'' ≡ smooth_rows full ts vs zs hs rs₀ → RowsWithin rs'' rs' (length zs)
        plain_rows_within rs'' x = record {
          within = λ k l.
              subst (LiesWithin (stored_row rs'' k)) (sym (row_is k l))
              (subst (λ (e : Estimate). LiesWithin e (range_estimate ts ls us (get_or zs k 0) (get_or hs k 0))) (sym (plain_row_is rs'' x k l))
              (row_lies_within ts ls us vs (get_or zs k 0) (get_or hs k 0) c));
          missing = λ k l.
              subst (MissingTogether (stored_row rs'' k)) (sym (row_is k l))
              (subst (λ (e : Estimate). MissingTogether e (range_estimate ts ls us (get_or zs k 0) (get_or hs k 0))) (sym (plain_row_is rs'' x k l))
              (missing_together ls us vs c highs ts (get_or zs k 0) (get_or hs k 0)
              ((lows_accepted full (same_limits full) ts ls us zs hs rs free).even ∙ c.lows)));
        }

    -- by the plain sweep of the lowest values
    module _ (minutes : AtMost max_u16 ts) (highs : AtMost max_u16 us) where
      lows_answer : smooth full ts ls zs hs (room zs) ≡ given n
      lows_answer = plain_answer ls (lows_chosen ls us found.uncrossed) (room zs) (length-replicate (row_width * length zs) 0) minutes highs

      passes_counted : (n ≡ log_passes ts ls (moves zs hs)) × (n ≤ 2 * length ts)
      passes_counted =
          smooth_passes full (same_limits full) ts ls zs hs minutes (lows_small ls us ls (lows_chosen ls us found.uncrossed) highs) (room zs) n lows_answer

    low_is : (k : ℕ) → k < length zs → low_row (stored_range_row rs' k) ≡ estimate ts ls (get_or zs k 0) (get_or hs k 0)
    low_is k l = ap low_row (row_is k l) ∙ low_row_is ts ls us (get_or zs k 0) (get_or hs k 0)

    high_is : (k : ℕ) → k < length zs → high_row (stored_range_row rs' k) ≡ estimate ts us (get_or zs k 0) (get_or hs k 0)
    high_is k l = ap high_row (row_is k l) ∙ high_row_is ts ls us (get_or zs k 0) (get_or hs k 0)

    row_among : (vs : List ℕ) (e : Estimate) (z h : ℕ) → e ≡ estimate ts vs z h → ¬ (e.value ≡ missing) → Among ts vs z h e
    row_among vs e z h q p =
        subst (Among ts vs z h) (sym q)
        (estimate_among ts vs z h (lows_accepted full (same_limits full) ts ls us zs hs rs free).ordered (λ m. p (ap (λ (d : Estimate). d.value) q ∙ m)))

    pub leaves : AtMost max_u16 ts → AtMost max_u16 us → SweptRanges ts ls us zs hs n rs'
    leaves minutes highs =
        let low = lows_chosen ls us found.uncrossed in
        let high = highs_chosen ls us found.uncrossed in
        record {
          rows_length = ap length (e ∙ rows_are) ∙ range_rows_length ts ls us zs hs (length zs);
          low_published = λ k l.
              subst (PublishedRow ts ls (get_or zs k 0) (get_or hs k 0)) (sym (low_is k l))
              (published ts ls zs hs k (lows_accepted full (same_limits full) ts ls us zs hs rs free) (lows_small ls us ls low highs) l);
          high_published = λ k l.
              subst (PublishedRow ts us (get_or zs k 0) (get_or hs k 0)) (sym (high_is k l))
              (published ts us zs hs k (highs_accepted full (same_limits full) ts ls us zs hs rs free) highs l);
          passes_are = (passes_counted minutes highs).0;
          passes_most = (passes_counted minutes highs).1;
          low_among = λ k l p. row_among ls _ _ _ (low_is k l) p;
          high_among = λ k l p. row_among us _ _ _ (high_is k l) p;
          plain_within = λ vs rs₀ b rs'' c fits x. (
            opened b (x.ensured.0 ∙ plain_answer vs c rs₀ fits minutes highs),
            plain_rows_within vs c rs₀ fits minutes highs rs'' x.ensured.1,
          );
          exported_plain_within = λ vs rs₀ b rs'' c fits x. (
            x.ensured.0 ∙ ap (answered (λ n. n)) (plain_answer vs c rs₀ fits minutes highs),
            plain_rows_within vs c rs₀ fits minutes highs rs'' x.ensured.1,
          );
          lows_are_chosen = low;
          low_ends_reached = λ rs₀ b rs'' fits x k l.
              plain_row_is ls low rs₀ fits rs'' x.ensured.1 k l ∙ sym (low_is k l);
          exported_low_ends_reached = λ rs₀ c rs'' fits x k l. plain_row_is ls low rs₀ fits rs'' x.ensured.1 k l ∙ sym (low_is k l);
          highs_are_chosen = high;
          high_ends_reached = λ rs₀ b rs'' fits x k l.
              plain_row_is us high rs₀ fits rs'' x.ensured.1 k l ∙ sym (high_is k l);
          exported_high_ends_reached = λ rs₀ c rs'' fits x k l. plain_row_is us high rs₀ fits rs'' x.ensured.1 k l ∙ sym (high_is k l);
        }
      where
        opened : (b : Result ℕ Refusal) → answer_of b ≡ given n → b ≡ Ok n
        opened (Ok m) e = ap Ok (let s : m ≡ n = cc in s)
        opened (Err r) e = let z : ◌≡◌ {A = ℕ} 0 1 = cc in absurd (omega arith)

-- ---- refusals
module _ (ts ls us zs hs rs : List ℕ) where
  exactly : RefusedExactly (refusal (smooth_ranges full ts ls us zs hs rs)) (FirstFault (range_conditions ts ls us zs hs (length rs)))
  unfolding smooth_ranges
  exactly = decided_exactly (passes ts ls fresh (moves zs hs)) (finds ts ls us zs hs (length rs)) refl

  stays : (rs' : List ℕ) → rs' ≡ smooth_ranges_rows full ts ls us zs hs rs → (e : Fault) → refusal (smooth_ranges full ts ls us zs hs rs) ≡ Some e
      → rs' ≡ rs
  unfolding smooth_ranges smooth_ranges_rows
  stays rs' r e q =
      decided_stays {t = smooth_ranges full ts ls us zs hs rs} (passes ts ls fresh (moves zs hs)) (finds ts ls us zs hs (length rs)) refl
      (range_rows ts ls us zs hs (length zs)) rs rs' r e q

  pub coded : (c : ℕ) → c ≡ answered (λ n. n) (smooth_ranges full ts ls us zs hs rs) → code_refusal c ≡ refusal (smooth_ranges full ts ls us zs hs rs)
  coded c q =
      exported_refusal (λ n. n) (smooth_ranges full ts ls us zs hs rs) c _ q (first_numbered (range_conditions ts ls us zs hs (length rs)) refl) exactly

  -- an accepted answer of the exported call
  pub code_given : (c : ℕ) → c ≡ answered (λ n. n) (smooth_ranges full ts ls us zs hs rs) → code_refusal c ≡ None
      → (n : ℕ) × ((smooth_ranges full ts ls us zs hs rs ≡ given n) × (c ≡ detail_unit * n))
  code_given c q e =
      let g = accepted_given (smooth_ranges full ts ls us zs hs rs) (sym (coded c q) ∙ e) in
      (g.0, (g.1, q ∙ ap (answered (λ n. n)) g.1))

-- ---- ranges of one value each
module _ (ts vs zs hs rs rs₀ : List ℕ) (seven : length rs ≡ range_row_width * length zs) (five : length rs₀ ≡ row_width * length zs) where
  none_crossed : lowest (crossed vs vs) (length vs) ≡ None
  none_crossed = none_lowest (crossed vs vs) (length vs) (λ k l. le-ltb (get_or vs k 0) (get_or vs k 0) (le_refl _))

  same_refusal : range_refusal full ts vs vs zs hs rs ≡ smooth_refusal full ts vs zs hs rs₀
  same_refusal = by (uneven_samples ts vs) refl
    where
      by : (b : Bool) → uneven_samples ts vs ≡ b → range_refusal full ts vs vs zs hs rs ≡ smooth_refusal full ts vs zs hs rs₀
      by true e = rw (e)
      by false e =
          rw (
            e,
            differ_same (length rs) (range_row_width * length zs) seven,
            differ_same (length rs₀) (row_width * length zs) five,
            none_crossed,
          )

  same_answer : smooth_ranges full ts vs vs zs hs rs ≡ smooth full ts vs zs hs rs₀
  unfolding smooth_ranges smooth
  same_answer = ap (λ (o : Option Fault). unless o (passes ts vs fresh (moves zs hs))) same_refusal

-- the row of each mark is the plain one with its sum twice and its value twice
doubled : (ts vs zs hs rs : List ℕ) (n : ℕ) → smooth_ranges full ts vs vs zs hs rs ≡ given n → (rs' rs₀ rs₀' : List ℕ)
    → rs' ≡ smooth_ranges_rows full ts vs vs zs hs rs → length rs₀ ≡ row_width * length zs → rs₀' ≡ smooth_rows full ts vs zs hs rs₀
    → (k : ℕ) → k < length zs → stored_range_row rs' k ≡ twice (stored_row rs₀' k)
doubled ts vs zs hs rs n q rs' rs₀ rs₀' e five e₀ k l =
    let chosen = lows_chosen vs vs (found ts vs vs zs hs rs n q).uncrossed in
    row_is ts vs vs zs hs rs n q rs' e k l
    ∙ twice_is ts vs (get_or zs k 0) (get_or hs k 0)
    ∙ sym (ap twice (plain_row_is ts vs vs zs hs rs n q rs' e vs chosen rs₀ five rs₀' e₀ k l))

-- ---- readings that have changed places: a row is the plain one of the lows and the plain one of the highs
same_range_row : (ts ls us ls₀ us₀ : List ℕ) (z h : ℕ) → estimate ts ls z h ≡ estimate ts ls₀ z h → estimate ts us z h ≡ estimate ts us₀ z h
    → range_estimate ts ls us z h ≡ range_estimate ts ls₀ us₀ z h
unfolding range_estimate
same_range_row ts ls us ls₀ us₀ z h low high = λ i. record {
  left = (low i).left;
  right = (low i).right;
  weight = (low i).weight;
  sum = record { low = (low i).sum; high = (high i).sum };
  value = record { low = (low i).value; high = (high i).value };
}

module _ (ts ls us ls₀ us₀ zs hs rs rs₀ : List ℕ) (n m : ℕ) (q : smooth_ranges full ts ls us zs hs rs ≡ given n)
    (q₀ : smooth_ranges full ts ls₀ us₀ zs hs rs₀ ≡ given m) (lows : Rearranged ts ls ls₀) (highs : Rearranged ts us us₀) where
  same_passes : AtMost max_u16 ts → AtMost max_u16 us → AtMost max_u16 us₀ → (rs' rs₀' : List ℕ) → rs' ≡ smooth_ranges_rows full ts ls us zs hs rs
      → rs₀' ≡ smooth_ranges_rows full ts ls₀ us₀ zs hs rs₀ → n ≡ m
  same_passes minutes small small₀ rs' rs₀' e e₀ =
      let a = lows_answer ts ls us zs hs rs n q rs' e minutes small in
      let b = lows_answer ts ls₀ us₀ zs hs rs₀ m q₀ rs₀' e₀ minutes small₀ in
      let s = (same_curves ts ls ls₀ lows).smooth_answers full zs hs (room zs) in
      let t : given n ≡ given m = sym a ∙ s ∙ b in
      cc

  same_rows : (rs' rs₀' : List ℕ) → rs' ≡ smooth_ranges_rows full ts ls us zs hs rs → rs₀' ≡ smooth_ranges_rows full ts ls₀ us₀ zs hs rs₀ → (k : ℕ)
      → k < length zs → stored_range_row rs' k ≡ stored_range_row rs₀' k
  same_rows rs' rs₀' e e₀ k l =
      let o = (lows_accepted full (same_limits full) ts ls us zs hs rs (free ts ls us zs hs rs n q)).ordered in
      row_is ts ls us zs hs rs n q rs' e k l
      ∙ same_range_row ts ls us ls₀ us₀ (get_or zs k 0) (get_or hs k 0) ((same_curves ts ls ls₀ lows).estimates o _ _)
      ((same_curves ts us us₀ highs).estimates o _ _)
      ∙ sym (row_is ts ls₀ us₀ zs hs rs₀ m q₀ rs₀' e₀ k l)

one_between_low : (i : ℕ) → i < 1 → get_or (0 ∷ []) i 0 ≤ get_or (1 ∷ []) i 0
one_between_low zero l = zero-le
one_between_low (suc i) l = absurd (omega arith)

one_between_high : (i : ℕ) → i < 1 → get_or (1 ∷ []) i 0 ≤ get_or (2 ∷ []) i 0
one_between_high zero l = omega arith
one_between_high (suc i) l = absurd (omega arith)

accepted_one : refusal
    (smooth_ranges full (5 ∷ []) (0 ∷ []) (2 ∷ []) (5 ∷ []) (1 ∷ []) (7 ∷ 7 ∷ 7 ∷ 7 ∷ 7 ∷ 7 ∷ 7 ∷ []))
    ≡ None
unfolding smooth_ranges
accepted_one = refl

pub ranges_taken : EveryRangesTaken
ranges_taken = record {
  ends = ranges_met.met;
  asks_nothing = λ κs a. tt;
  exported_ends = exported_met.met;
  exported_asks_nothing = λ κs a. tt;
}

pub over_ranges : OverRanges
over_ranges = record {
  refused = λ ts ls us zs hs rs a rs' c. record {
    exactly = rw c.ensured.0 (exactly ts ls us zs hs rs);
    stays = λ e q. stays ts ls us zs hs rs rs' c.ensured.1 e (ap refusal (sym c.ensured.0) ∙ q);
  };
  exported_refused = λ ts ls us zs hs rs c rs' x.
      exported_stays (smooth_ranges full ts ls us zs hs rs) c _ (coded ts ls us zs hs rs c x.ensured.0) (exactly ts ls us zs hs rs) (rs' ≡ rs)
      (stays ts ls us zs hs rs rs' x.ensured.1);
  swept = λ ts ls us zs hs rs n rs' minutes highs c. leaves ts ls us zs hs rs n (sym c.ensured.0) rs' c.ensured.1 minutes highs;
  exported_swept = λ ts ls us zs hs rs c rs' minutes highs x e.
      let g = code_given ts ls us zs hs rs c x.ensured.0 e in
      (g.0, (g.1.1, leaves ts ls us zs hs rs g.0 g.1.0 rs' x.ensured.1 minutes highs));
  row_within = row_lies_within;
  weightless_together = λ ts ls us vs z h c.
      let e = (row_lies_within ts ls us vs z h c).weight in (λ q. sym e ∙ q, λ q. e ∙ q);
  missing_together = λ ts ls us vs z h c small even. missing_together ls us vs c small ts z h even;
  answered_alike = λ ts vs zs hs rs a rs' rs₀ b rs₀' seven five c d.
      c.ensured.0 ∙ same_answer ts vs zs hs rs rs₀ seven five ∙ sym d.ensured.0;
  rows_doubled = λ ts vs zs hs rs n rs' rs₀ b rs₀' five c d k l.
      doubled ts vs zs hs rs n (sym c.ensured.0) rs' rs₀ rs₀' c.ensured.1 five d.ensured.1 k l;
  exported_alike = λ ts vs zs hs rs c rs' rs₀ d rs₀' seven five x y.
      x.ensured.0 ∙ ap (answered (λ n. n)) (same_answer ts vs zs hs rs rs₀ seven five) ∙ sym y.ensured.0;
  exported_rows_doubled = λ ts vs zs hs rs c rs' rs₀ d rs₀' five x e y k l.
      let g = code_given ts vs vs zs hs rs c x.ensured.0 e in
      doubled ts vs zs hs rs g.0 g.1.0 rs' rs₀ rs₀' x.ensured.1 five y.ensured.1 k l;
  rearranged_alike = λ ts ls us ls₀ us₀ zs hs rs n rs' rs₀ m rs₀' minutes small small₀ lows highs c d.
      let q = sym c.ensured.0 in
      let q₀ = sym d.ensured.0 in (
        same_passes ts ls us ls₀ us₀ zs hs rs rs₀ n m q q₀ lows highs minutes small small₀ rs' rs₀' c.ensured.1 d.ensured.1,
        same_rows ts ls us ls₀ us₀ zs hs rs rs₀ n m q q₀ lows highs rs' rs₀' c.ensured.1 d.ensured.1,
      );
  exported_rearranged_alike = λ ts ls us ls₀ us₀ zs hs rs c rs' rs₀ d rs₀' minutes small small₀ lows highs x e y f.
      let g = code_given ts ls us zs hs rs c x.ensured.0 e in
      let g₀ = code_given ts ls₀ us₀ zs hs rs₀ d y.ensured.0 f in
      let s = same_passes ts ls us ls₀ us₀ zs hs rs rs₀ g.0 g₀.0 g.1.0 g₀.1.0 lows highs minutes small small₀ rs' rs₀' x.ensured.1
      y.ensured.1 in (
        g.1.1 ∙ ap (λ (i : ℕ). detail_unit * i) s ∙ sym g₀.1.1,
        same_rows ts ls us ls₀ us₀ zs hs rs rs₀ g.0 g₀.0 g.1.0 g₀.1.0 lows highs rs' rs₀' x.ensured.1 y.ensured.1,
      );
  some_accepted = λ a rs' c. ap refusal c.ensured.0 ∙ accepted_one;
  some_between = record { lows = refl; highs = refl; at_least = one_between_low; at_most = one_between_high };
  cases = range_cases_hold;
}
