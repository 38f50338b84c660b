-- Both sweeps look at the same list of checks but for the test of report 6: what lies before and behind it does not know the limits. So where
-- both tests of 6 are false the refusals are equal, and where the smaller limits' test is true only report 8 stands before it.
use Prim.Native.Nat.{ℕ}
use mathlib.Core.Path.{◌≡◌, refl, sym, ap, ◌∙◌}
use mathlib.Core.Bool.{Bool, true, false, true≢false, not, ◌||◌, ◌&&◌, and-eq-true_iff}
use mathlib.Core.Logic.{inl, inr}
use mathlib.Core.List.{List, [], ◌∷◌, ◌++◌}
use Rattle.std.specs.Prelude.{Option, None, Some}
use native.Mathlib.Nat.{le_trans}
use native.Mathlib.Omega.{arith}
use borrow.Author.Tests.{ltb-false, le-ltb, lt-ltb, eqb-false}
use lib.Dec.{ltb, eqb}
use lib.ListN.{length}
use Rattle.meanings.specs.declared.Limits.{Limits}
use Rattle.meanings.specs.Lists.{pick}
use Rattle.meanings.specs.Limits.{full, preview, LimitsWithin, row_width}
use Rattle.meanings.specs.Moves.{moves}
use Rattle.meanings.specs.Reports.{Fault, Answer, given, refused, unless, accepted_or, Check, check, at, fault_or, first_of}
use Rattle.meanings.specs.Reports.{uneven_samples, uneven_points, uneven_rows, order_checks, windows_checks}
use Rattle.meanings.specs.Estimate.{rows}
use Rattle.meanings.specs.Running.{fresh, passes}
use Rattle.meanings.specs.Calls.{smooth, smooth_refusal, smooth_rows}
use Rattle.meanings.proofs.Checks.{or_false, preview_within_full}
use Rattle.laws.specs.rows.TwoLimits.{Fits, Over, OneSweep}

-- the test of report 6
over : Limits → List ℕ → List ℕ → Bool
over L ts zs = ltb L.samples (length ts) || ltb L.points (length zs)

fits_not_over : (L : Limits) (ts zs : List ℕ) → Fits L ts zs → over L ts zs ≡ false
unfolding over
fits_not_over L ts zs f = rw (le-ltb L.samples (length ts) f.samples, le-ltb L.points (length zs) f.points)

not_over_fits : (L : Limits) (ts zs : List ℕ) → over L ts zs ≡ false → Fits L ts zs
unfolding over
not_over_fits L ts zs e =
    let o = or_false (ltb L.samples (length ts)) (ltb L.points (length zs)) e in
    record { samples = ltb-false L.samples (length ts) o.0; points = ltb-false L.points (length zs) o.1 }

over_true : (L : Limits) (ts zs : List ℕ) → Over L ts zs → over L ts zs ≡ true
unfolding over
over_true L ts zs (inl l) = rw (lt-ltb L.samples (length ts) l)
over_true L ts zs (inr l) = by (ltb L.samples (length ts))
  where
    by : (b : Bool) → (b || ltb L.points (length zs)) ≡ true
    by true = refl
    by false = lt-ltb L.points (length zs) l

-- a list of checks without report n never gives it
abbrev without : ℕ → List Check → Bool
without n [] = true
without n (c ∷ cs) = not (eqb c.number n) && without n cs

never_gives : (n : ℕ) (cs : List Check) → without n cs ≡ true → (p : ℕ) → ¬ (first_of cs ≡ Some (record { number = n; place = p }))
never_gives n [] w p e = let z : ◌≡◌ {A = ℕ} 0 1 = cc in omega arith
never_gives n (c ∷ cs) w p e =
    by c.place (eqb c.number n) refl ((and-eq-true_iff (not (eqb c.number n)) (without n cs)).0 w) (never_gives n cs) e
  where
    by : (o : Option ℕ) (b : Bool) → eqb c.number n ≡ b → (not (eqb c.number n) ≡ true) × (without n cs ≡ true)
        → (without n cs ≡ true → (p : ℕ) → ¬ (first_of cs ≡ Some (record { number = n; place = p })))
        → ¬ (fault_or c.number o (first_of cs) ≡ Some (record { number = n; place = p }))
    by None b q w rest e = rest w.1 p e
    by (Some i) true q w rest e = true≢false (sym w.0 ∙ ap not q)
    by (Some i) false q w rest e =
        let f : ◌≡◌ {A = Fault} (record { number = c.number; place = i }) (record { number = n; place = p }) = cc in
        eqb-false c.number n q (ap (λ (f : Fault). f.number) f)

module _ (ts vs zs hs rs : List ℕ) where
  -- what stands before report 6, and behind it
  uneven_lists : Bool
  uneven_lists = uneven_samples ts vs || uneven_points zs hs || uneven_rows row_width (length rs) (length zs)

  later : List Check
  later = check 7 (at 0 (eqb (length zs) 0)) ∷ order_checks ts zs ++ windows_checks zs hs

  around : Bool → Option Fault
  around b = fault_or 8 (at 0 uneven_lists) (fault_or 6 (at 0 b) (first_of later))

  refused_around : (L : Limits) → smooth_refusal L ts vs zs hs rs ≡ around (over L ts zs)
  unfolding over uneven_lists later around
  refused_around L = refl

  answer_of : Option Fault → Answer ℕ
  answer_of f = unless f (passes ts vs fresh (moves zs hs))

  answers : (L : Limits) → smooth L ts vs zs hs rs ≡ answer_of (around (over L ts zs))
  unfolding smooth answer_of
  answers L = ap (λ (f : Option Fault). unless f (passes ts vs fresh (moves zs hs))) (refused_around L)

  rows_at_exit : (L : Limits) → smooth_rows L ts vs zs hs rs ≡ accepted_or (around (over L ts zs)) (rows ts vs zs hs (length zs)) rs
  unfolding smooth_rows
  rows_at_exit L = ap (λ (f : Option Fault). accepted_or f (rows ts vs zs hs (length zs)) rs) (refused_around L)

  -- even lists never get 8
  not_eight : uneven_lists ≡ false → (b : Bool) (p : ℕ) → ¬ (answer_of (around b) ≡ refused (record { number = 8; place = p }))
  unfolding answer_of around later
  not_eight e b p = rw e (even (first_of (check 6 (at 0 b) ∷ later)) refl)
    where
      even : (f : Option Fault) → first_of (check 6 (at 0 b) ∷ later) ≡ f
          → ¬ (unless f (passes ts vs fresh (moves zs hs)) ≡ refused (record { number = 8; place = p }))
      even None q k = let z : ◌≡◌ {A = ℕ} 0 1 = cc in omega arith
      even (Some g) q k =
          let same : g ≡ record { number = 8; place = p } = cc in
          never_gives 8 (check 6 (at 0 b) ∷ later) refl p (q ∙ ap Some same)

module _ (L M : Limits) (within : LimitsWithin L M) (ts vs zs hs rs : List ℕ) where
  fits_larger : Fits L ts zs → Fits M ts zs
  fits_larger f = record { samples = le_trans f.samples within.samples; points = le_trans f.points within.points }

  same_test : Fits L ts zs → over L ts zs ≡ over M ts zs
  same_test f = fits_not_over L ts zs f ∙ sym (fits_not_over M ts zs (fits_larger f))

  same : Fits L ts zs → smooth L ts vs zs hs rs ≡ smooth M ts vs zs hs rs
  same f =
      answers ts vs zs hs rs L
      ∙ ap (λ (b : Bool). answer_of ts vs zs hs rs (around ts vs zs hs rs b)) (same_test f)
      ∙ sym (answers ts vs zs hs rs M)

  given_fits : (n : ℕ) → smooth L ts vs zs hs rs ≡ given n → Fits L ts zs
  unfolding answer_of around
  given_fits n e = not_over_fits L ts zs (by (over L ts zs) (uneven_lists ts vs zs hs rs) (sym (answers ts vs zs hs rs L) ∙ e))
    where
      by : (b u : Bool)
          → unless (fault_or 8 (at 0 u) (fault_or 6 (at 0 b) (first_of (later ts vs zs hs rs)))) (passes ts vs fresh (moves zs hs)) ≡ given n
          → b ≡ false
      by false u q = refl
      by true true q = let z : ◌≡◌ {A = ℕ} 0 1 = cc in absurd (omega arith)
      by true false q = let z : ◌≡◌ {A = ℕ} 0 1 = cc in absurd (omega arith)

  -- over the smaller limits: 8 or 6, by the lengths alone
  over_answer : Over L ts zs → (u : Bool) → uneven_lists ts vs zs hs rs ≡ u
      → smooth L ts vs zs hs rs ≡ refused (pick u (record { number = 8; place = 0 }) (record { number = 6; place = 0 }))
  unfolding answer_of around
  over_answer o true e = answers ts vs zs hs rs L ∙ rw (over_true L ts zs o, e)
  over_answer o false e = answers ts vs zs hs rs L ∙ rw (over_true L ts zs o, e)

  over_rows : Over L ts zs → (u : Bool) → uneven_lists ts vs zs hs rs ≡ u → smooth_rows L ts vs zs hs rs ≡ rs
  unfolding around
  over_rows o true e = rows_at_exit ts vs zs hs rs L ∙ rw (over_true L ts zs o, e)
  over_rows o false e = rows_at_exit ts vs zs hs rs L ∙ rw (over_true L ts zs o, e)

  -- the larger one gives 8 exactly for uneven lists, at place 0
  larger_uneven : uneven_lists ts vs zs hs rs ≡ true → smooth M ts vs zs hs rs ≡ refused (record { number = 8; place = 0 })
  unfolding answer_of around
  larger_uneven e = answers ts vs zs hs rs M ∙ rw e

  pub one_sweep : OneSweep L M ts vs zs hs rs
  one_sweep = record {
    accepts = λ n. (λ e. let f = given_fits n e in (sym (same f) ∙ e, f), λ a. same a.1 ∙ a.0);
    same_answer = same;
    same_rows = λ f.
        rows_at_exit ts vs zs hs rs L
        ∙ ap (λ (b : Bool). accepted_or (around ts vs zs hs rs b) (rows ts vs zs hs (length zs)) rs) (same_test f)
        ∙ sym (rows_at_exit ts vs zs hs rs M);
    uneven = λ o p e. eight o p e (uneven_lists ts vs zs hs rs) refl;
    too_many = λ o k. six o k (uneven_lists ts vs zs hs rs) refl;
    rows_stay = λ o. over_rows o (uneven_lists ts vs zs hs rs) refl;
  }
    where
      eight : Over L ts zs → (p : ℕ) → smooth M ts vs zs hs rs ≡ refused (record { number = 8; place = p }) → (u : Bool)
          → uneven_lists ts vs zs hs rs ≡ u → (p ≡ 0) × (smooth L ts vs zs hs rs ≡ refused (record { number = 8; place = 0 }))
      eight o p e true q =
          let r : ◌≡◌ {A = Answer ℕ} (refused (record { number = 8; place = p })) (refused (record { number = 8; place = 0 })) =
          sym e ∙ larger_uneven q
          in
          let f : ◌≡◌ {A = Fault} (record { number = 8; place = p }) (record { number = 8; place = 0 }) = cc in
          (ap (λ (f : Fault). f.place) f, over_answer o true q)
      eight o p e false q = absurd (not_eight ts vs zs hs rs q (over M ts zs) p (sym (answers ts vs zs hs rs M) ∙ e))

      six : Over L ts zs → ((p : ℕ) → ¬ (smooth M ts vs zs hs rs ≡ refused (record { number = 8; place = p }))) → (u : Bool)
          → uneven_lists ts vs zs hs rs ≡ u → smooth L ts vs zs hs rs ≡ refused (record { number = 6; place = 0 })
      six o k true q = absurd (k 0 (larger_uneven q))
      six o k false q = over_answer o false q

-- the preview and the full sweep
pub preview_and_full : (ts vs zs hs rs : List ℕ) → OneSweep preview full ts vs zs hs rs
preview_and_full ts vs zs hs rs = one_sweep preview full preview_within_full ts vs zs hs rs
