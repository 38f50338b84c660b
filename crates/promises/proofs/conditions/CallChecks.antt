-- Each call's list of checks finds the conditions of specs/Conditions.antt: test by test, what the meaning computes is what the condition says.
use Prim.Native.Nat.{ℕ, zero, suc, ◌+◌, ◌*◌, ◌≤◌, ◌<◌}
use mathlib.Core.Path.{◌≡◌, refl, sym, ◌∙◌}
use mathlib.Core.Bool.{Bool, true, false, true≢false, ◌||◌}
use mathlib.Core.Logic.{◌⊎◌, inl, inr}
use mathlib.Core.List.{List, [], ◌++◌}
use native.Mathlib.Omega.{arith}
use borrow.Author.Tests.{ltb-true, ltb-false, leb-true, leb-false, eqb-true, eqb-false}
use lib.Dec.{ltb, leb, eqb}
use lib.ListN.{length, get_or}
use Rattle.meanings.specs.declared.Limits.{Limits}
use Rattle.meanings.specs.Lists.{lowest}
use Rattle.meanings.specs.Limits.{full, max_bandwidth, row_width}
use Rattle.meanings.specs.Grid.{presets}
use Rattle.meanings.specs.Reports.{Check, at, differ, decreases, outside, edge_decreases, uneven_samples, uneven_points, uneven_rows}
use Rattle.meanings.specs.Reports.{size_checks, series_checks, record_checks, bandwidth_checks, curve_size_checks, order_checks}
use Rattle.meanings.specs.Reports.{bandwidth_list_checks, edge_checks, evaluate_checks, advance_checks, curve_checks, smooth_checks}
use Rattle.meanings.specs.Reports.{fill_checks, read_checks, buffer_checks}
use Rattle.meanings.specs.Reports as reports
use Rattle.meanings.proofs.Checks.{differ_false, differ_same}
use Rattle.promises.specs.conditions.Conditions.{Conditions, no_more, condition, AtZero, FallsAt, OutOfRange, EdgeFallsAt, size_conditions}
use Rattle.promises.specs.conditions.Conditions.{series_conditions, record_conditions, bandwidth_conditions, curve_size_conditions, order_conditions}
use Rattle.promises.specs.conditions.Conditions.{bandwidth_list_conditions, evaluate_conditions, advance_conditions, curve_conditions, smooth_conditions}
use Rattle.promises.specs.conditions.Conditions.{fill_conditions, read_conditions, buffer_conditions}
use Rattle.promises.proofs.conditions.FirstFaults.{Finds, FindAll, at_finds, lowest_finds}

-- the test is true where the condition holds, and false where it does not
pub record Decides (b : Bool) (C : Type 0) : Type 0 where
  pub holds : b ≡ true → C
  pub fails : b ≡ false → ¬ C

pub above : (m n : ℕ) → Decides (ltb m n) (m < n)
above m n = record { holds = ltb-true m n; fails = λ e l. omega (arith, ltb-false m n e) }

at_least : (m n : ℕ) → Decides (leb m n) (m ≤ n)
at_least m n = record { holds = leb-true m n; fails = λ e l. omega (arith, leb-false m n e) }

pub equal : (m n : ℕ) → Decides (eqb m n) (m ≡ n)
equal m n = record { holds = eqb-true m n; fails = eqb-false m n }

pub unequal : (m n : ℕ) → Decides (differ m n) (¬ (m ≡ n))
unequal m n = record { holds = λ e q. true≢false (sym e ∙ differ_same m n q); fails = λ e k. k (differ_false m n e) }

pub either : (a b : Bool) (A B : Type 0) → Decides a A → Decides b B → Decides (a || b) (A ⊎ B)
either true b A B d f = record { holds = λ e. inl (d.holds refl); fails = λ e. absurd (true≢false e) }
either false b A B d f = record { holds = λ e. inr (f.holds e); fails = λ e. neither e }
  where
    neither : b ≡ false → ¬ (A ⊎ B)
    neither e (inl a) = d.fails refl a
    neither e (inr c) = f.fails e c

-- not both: one of the two does not hold
pub either_not : (a b : Bool) (A B : Type 0) → Decides a (¬ A) → Decides b (¬ B) → Decides (a || b) (¬ (A × B))
either_not true b A B d f = record { holds = λ e k. d.holds refl k.0; fails = λ e. absurd (true≢false e) }
either_not false b A B d f = record { holds = λ e k. f.holds e k.1; fails = λ e k. d.fails refl (λ a. f.fails e (λ c. k (a, c))) }

pub same_condition : (b : Bool) (A B : Type 0) → (A → B) → (B → A) → Decides b A → Decides b B
same_condition b A B to from d = record { holds = λ e. to (d.holds e); fails = λ e c. d.fails e (from c) }

-- where the condition holds the test is not false
test_true : (b : Bool) (C : Type 0) → Decides b C → C → b ≡ true
test_true true C d c = refl
test_true false C d c = absurd (d.fails refl c)

out_of_range : (most h : ℕ) → Decides (outside most h) (OutOfRange most h)
out_of_range most h = either _ _ _ _ (equal h 0) (above most h)

-- a condition of the whole call
pub finds : (n : ℕ) {b : Bool} {C : Type 0} → Decides b C → Finds (reports.check n (at 0 b)) n (AtZero C)
finds n {b} {C} d = at_finds n b C d.holds d.fails

-- a condition at the positions of a list
finds_lowest : (n : ℕ) (t : ℕ → Bool) (size : ℕ) (At : ℕ → Type 0) → ((i : ℕ) → At i → i < size) → ((i : ℕ) → i < size → Decides (t i) (At i))
    → Finds (reports.check n (lowest t size)) n At
finds_lowest n t size At within d =
    lowest_finds n t size At (λ i l e. (d i l).holds e) (λ i a. (within i a, test_true (t i) (At i) (d i (within i a)) a))

falls : (xs : List ℕ) (i : ℕ) → i < length xs → Decides (decreases xs i) (FallsAt xs i)
falls xs zero l = record { holds = λ e. absurd (true≢false (sym e)); fails = λ e f. let n = f.next in omega arith }
falls xs (suc i) l =
    same_condition _ _ _ (λ f. record { before = i; next = refl; within = l; falls = f })
    (λ f. let n : f.before ≡ i = omega (arith, f.next) in rw n at f.falls)
    (above (get_or xs (suc i) 0) (get_or xs i 0))

pub finds_fall : (n : ℕ) (xs : List ℕ) → Finds (reports.check n (lowest (decreases xs) (length xs))) n (FallsAt xs)
finds_fall n xs = finds_lowest n (decreases xs) (length xs) (FallsAt xs) (λ i f. f.within) (falls xs)

edge_falls : (zs hs : List ℕ) (i : ℕ) → i < length zs → Decides (edge_decreases zs hs i) (EdgeFallsAt zs hs i)
edge_falls zs hs zero l = record { holds = λ e. absurd (true≢false (sym e)); fails = λ e f. let n = f.next in omega arith }
edge_falls zs hs (suc i) l =
    same_condition _ _ _ (λ f. record { before = i; next = refl; within = l; falls = f })
    (λ f. let n : f.before ≡ i = omega (arith, f.next) in rw n at f.falls)
    (either _ _ _ _ (above (get_or zs (suc i) 0 + get_or hs i 0) (get_or zs i 0 + get_or hs (suc i) 0))
    (above (get_or zs (suc i) 0 + get_or hs (suc i) 0) (get_or zs i 0 + get_or hs i 0)))

-- the pieces: a list of checks in front of others finds its conditions in front of theirs
module _ {ks : List Check} {cs : Conditions} where
  pub size_finds : (L : Limits) (ts vs : List ℕ) → FindAll ks cs → FindAll (size_checks L ts vs ++ ks) (size_conditions L ts vs cs)
  size_finds L ts vs f = record { each = (finds 8 (unequal _ _), (finds 6 (above _ _), f.each)) }

  pub series_finds : (L : Limits) (ts vs : List ℕ) → FindAll ks cs → FindAll (series_checks L ts vs ++ ks) (series_conditions L ts vs cs)
  series_finds L ts vs f = record { each = (finds 8 (unequal _ _), (finds 6 (above _ _), (finds_fall 4 ts, f.each))) }

  pub record_finds : (n left right : ℕ) → FindAll ks cs → FindAll (record_checks n left right ++ ks) (record_conditions n left right cs)
  record_finds n left right f = record { each = (finds 11 (either _ _ _ _ (above _ _) (above _ _)), f.each) }

  pub bandwidth_finds : (h : ℕ) → FindAll ks cs → FindAll (bandwidth_checks h ++ ks) (bandwidth_conditions h cs)
  bandwidth_finds h f = record { each = (finds 9 (out_of_range max_bandwidth h), f.each) }

  -- one more list is uneven exactly where it does not fit
  pub curve_size_finds : (L : Limits) (ts vs zs hs : List ℕ) (more : Bool) (Fits : Type 0) → Decides more (¬ Fits) → FindAll ks cs
      → FindAll (curve_size_checks L ts vs zs hs more ++ ks) (curve_size_conditions L ts vs zs hs Fits cs)
  curve_size_finds L ts vs zs hs more Fits d f = record {
    each = (finds 8 lengths, (finds 6 (either _ _ _ _ (above _ _) (above _ _)), (finds 7 (equal _ 0), f.each)));
  }
    where
      lengths : Decides (uneven_samples ts vs || uneven_points zs hs || more) (¬ ((length ts ≡ length vs) × (length zs ≡ length hs) × Fits))
      lengths =
          same_condition _ _ _ (λ k a. k ((a.0, a.1), a.2)) (λ k a. k (a.0.0, a.0.1, a.1))
          (either_not _ _ ((length ts ≡ length vs) × (length zs ≡ length hs)) Fits (either_not _ _ _ _ (unequal _ _) (unequal _ _)) d)

  pub order_finds : (ts zs : List ℕ) → FindAll ks cs → FindAll (order_checks ts zs ++ ks) (order_conditions ts zs cs)
  order_finds ts zs f = record { each = (finds_fall 4 ts, (finds_fall 5 zs, f.each)) }

  pub bandwidth_list_finds : (most : ℕ) (hs : List ℕ) → FindAll ks cs
      → FindAll (bandwidth_list_checks most hs ++ ks) (bandwidth_list_conditions most hs cs)
  bandwidth_list_finds most hs f = record {
    each = (
      finds_lowest 9 _ (length hs) _ (λ i g. g.0) (λ i l. same_condition _ _ _ (λ o. (l, o)) (λ g. g.1) (out_of_range most (get_or hs i 0))),
      f.each,
    );
  }

  pub edge_finds : (zs hs : List ℕ) → FindAll ks cs → FindAll (edge_checks zs hs ++ ks) (condition 10 (EdgeFallsAt zs hs) cs)
  edge_finds zs hs f = record { each = (finds_lowest 10 _ (length zs) _ (λ i g. g.within) (edge_falls zs hs), f.each) }

-- where there is no further list, none is uneven
pub always_fits : Decides false (¬ Unit {0})
always_fits = record { holds = λ e. absurd (true≢false (sym e)); fails = λ e k. k tt }

-- no check finds no condition
pub none_left : FindAll [] no_more
none_left = record { each = tt }

-- the calls
pub evaluate_finds : (ts vs : List ℕ) (h : ℕ) → FindAll (evaluate_checks full ts vs h) (evaluate_conditions ts vs h)
evaluate_finds ts vs h = series_finds full ts vs (bandwidth_finds h none_left)

pub advance_finds : (ts vs : List ℕ) (left right h : ℕ) → FindAll (advance_checks full ts vs left right h) (advance_conditions ts vs left right h)
advance_finds ts vs left right h = size_finds full ts vs (record_finds (length ts) left right (bandwidth_finds h none_left))

pub curve_finds : (L : Limits) (ts vs zs hs : List ℕ) (more : Bool) (Fits : Type 0) → Decides more (¬ Fits)
    → FindAll (curve_checks L ts vs zs hs more) (curve_conditions L ts vs zs hs Fits)
curve_finds L ts vs zs hs more Fits d =
    curve_size_finds L ts vs zs hs more Fits d
    (order_finds ts zs (bandwidth_list_finds max_bandwidth hs (edge_finds zs hs none_left)))

pub smooth_finds : (L : Limits) (ts vs zs hs : List ℕ) (rows : ℕ) → FindAll (smooth_checks L ts vs zs hs rows) (smooth_conditions L ts vs zs hs rows)
smooth_finds L ts vs zs hs rows = curve_finds L ts vs zs hs (uneven_rows row_width rows (length zs)) (rows ≡ row_width * length zs) (unequal _ _)

pub fill_finds : (z₀ spacing preset : ℕ) (zs hs : List ℕ)
    → FindAll (fill_checks full (length presets) z₀ spacing preset (length zs) (length hs)) (fill_conditions z₀ spacing preset zs hs)
fill_finds z₀ spacing preset zs hs = record {
  each = (finds 8 (unequal _ _), (finds 7 (equal _ 0), (finds 6 (above _ _), (finds 12 (at_least _ _), (finds 13 (above _ _), tt)))));
}

pub read_finds : (ts vs zs hs : List ℕ) → FindAll (read_checks full (length ts) (length vs) (length zs) (length hs)) (read_conditions ts vs zs hs)
read_finds ts vs zs hs = record { each = (finds 8 lengths, tt) }
  where
    lengths : Decides (differ (length ts) 1024 || differ (length vs) 1024 || differ (length zs) 512 || differ (length hs) 512)
        (¬ ((length ts ≡ 1024) × (length vs ≡ 1024) × (length zs ≡ 512) × (length hs ≡ 512)))
    lengths =
        same_condition _ _ _ (λ k a. k (((a.0, a.1), a.2), a.3)) (λ k a. k (a.0.0.0, a.0.0.1, a.0.1, a.1))
        (either_not _ _ (((length ts ≡ 1024) × (length vs ≡ 1024)) × (length zs ≡ 512)) (length hs ≡ 512)
        (either_not _ _ ((length ts ≡ 1024) × (length vs ≡ 1024)) (length zs ≡ 512)
        (either_not _ _ _ _ (unequal _ _) (unequal _ _)) (unequal _ _)) (unequal _ _))

pub buffer_finds : (out : List ℕ) → FindAll (buffer_checks (length out)) (buffer_conditions out)
buffer_finds out = record { each = (finds 8 (unequal _ _), tt) }
