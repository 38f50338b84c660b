-- What the reading lines hand on earns nothing: each kept reading has passed the checks of its line, and no kept minute is above a line's minute
-- that comes later.
use Prim.Native.Nat.{ℕ, zero, suc, ◌≤◌, ◌<◌}
use mathlib.Core.Path.{◌≡◌, refl, sym, ◌∙◌}
use mathlib.Core.Bool.{Bool, true, false, ◌&&◌}
use mathlib.Core.List.{List, [], ◌∷◌, ◌++◌}
use Rattle.std.specs.Prelude.{Option, None, Some}
use native.Mathlib.Nat.{le_trans}
use native.Mathlib.Omega.{arith}
use borrow.Author.Tests.{leb-false, leb-true, ltb-false, le-ltb}
use lib.Dec.{ltb, leb}
use lib.ListN.{length, get_or}
use Rattle.meanings.specs.declared.Limits.{Limits}
use Rattle.meanings.specs.Lists.{pick, AtMost}
use Rattle.meanings.specs.Limits.{max_u16}
use Rattle.meanings.specs.Reports.{Fault, Answer, given, first_of, decreases}
use Rattle.meanings.specs.Sheet.{Lines, end, unended, line, next_place, parts, parsed, or_next, Injection, ranged_sample, sample_line, add_kept}
use Rattle.meanings.proofs.Checks.{none_holds, at_none}
use Rattle.laws.proofs.sheet.ValueLines.{sample_line_text}
use Rattle.meanings.specs.declared.ranges.Kind.{Kind}
use Rattle.meanings.specs.declared.ranges.Kind.TheVariants.{Plain, Ranges}
use Rattle.meanings.specs.ranges.Ranges.{crossed}
use Rattle.meanings.specs.ranges.RangeSheet.{RangeInjection, with_high, four_parts, standing_twice, reading_line, kept_range, reading_checks, Readings}
use Rattle.meanings.specs.ranges.RangeSheet.{no_readings, with_line, with_reading, read_readings}
use Rattle.laws.proofs.ranges.FitFronts.{each_more, before_last, at_last, one_longer, decreases_before}

-- the numbers of a line that the lists take
pub record SmallReading (j : RangeInjection) : Type 0 where
  pub minute : j.minute ≤ max_u16
  pub low : j.low ≤ max_u16
  pub high : j.high ≤ max_u16

ranged_is_small : (a b c : Option ℕ) (j : Injection) → ranged_sample a b c ≡ Some j → (j.minute ≤ max_u16) × (j.value ≤ max_u16)
ranged_is_small None b c j h = let z : ◌≡◌ {A = ℕ} 0 1 = cc in absurd (omega arith)
ranged_is_small (Some t) None c j h = let z : ◌≡◌ {A = ℕ} 0 1 = cc in absurd (omega arith)
ranged_is_small (Some t) (Some i) None j h = let z : ◌≡◌ {A = ℕ} 0 1 = cc in absurd (omega arith)
ranged_is_small (Some t) (Some i) (Some v) j h = by (leb t max_u16) (leb 1 i) (leb i max_u16) (leb v max_u16) refl refl h
  where
    by : (a b c d : Bool) → leb t max_u16 ≡ a → leb v max_u16 ≡ d
        → pick (a && b && c && d) (Some (record { minute = t; injection = i; value = v })) None ≡ Some j → (j.minute ≤ max_u16) × (j.value ≤ max_u16)
    by true true true true e f h =
        let q : ◌≡◌ {A = Injection} (record { minute = t; injection = i; value = v }) j = cc in
        rw (← q) (leb-true t max_u16 e, leb-true v max_u16 f)
    by true true true false e f h = let z : ◌≡◌ {A = ℕ} 0 1 = cc in absurd (omega arith)
    by true true false d e f h = let z : ◌≡◌ {A = ℕ} 0 1 = cc in absurd (omega arith)
    by true false c d e f h = let z : ◌≡◌ {A = ℕ} 0 1 = cc in absurd (omega arith)
    by false b c d e f h = let z : ◌≡◌ {A = ℕ} 0 1 = cc in absurd (omega arith)

with_high_is_small : (a b c d : Option ℕ) (j : RangeInjection) → with_high (ranged_sample a b c) d ≡ Some j → SmallReading j
with_high_is_small a b c d j = by (ranged_sample a b c) refl d
  where
    high : (i : Injection) → (i.minute ≤ max_u16) × (i.value ≤ max_u16) → (u : ℕ) (k : Bool) → leb u max_u16 ≡ k
        → pick k (Some (record { minute = i.minute; injection = i.injection; low = i.value; high = u })) None ≡ Some j → SmallReading j
    high i s u true e h =
        let q : ◌≡◌ {A = RangeInjection} (record { minute = i.minute; injection = i.injection; low = i.value; high = u }) j = cc in
        rw (← q) (record { minute = s.0; low = s.1; high = leb-true u max_u16 e })
    high i s u false e h = let z : ◌≡◌ {A = ℕ} 0 1 = cc in absurd (omega arith)

    by : (o : Option Injection) → ranged_sample a b c ≡ o → (d : Option ℕ) → with_high o d ≡ Some j → SmallReading j
    by None e d h = let z : ◌≡◌ {A = ℕ} 0 1 = cc in absurd (omega arith)
    by (Some i) e None h = let z : ◌≡◌ {A = ℕ} 0 1 = cc in absurd (omega arith)
    by (Some i) e (Some u) h = high i (ranged_is_small a b c i e) u (leb u max_u16) refl h

four_are_small : (ps : List (List ℕ)) (j : RangeInjection) → four_parts ps ≡ Some j → SmallReading j
four_are_small [] j h = let z : ◌≡◌ {A = ℕ} 0 1 = cc in absurd (omega arith)
four_are_small (a ∷ []) j h = let z : ◌≡◌ {A = ℕ} 0 1 = cc in absurd (omega arith)
four_are_small (a ∷ b ∷ []) j h = let z : ◌≡◌ {A = ℕ} 0 1 = cc in absurd (omega arith)
four_are_small (a ∷ b ∷ c ∷ []) j h = let z : ◌≡◌ {A = ℕ} 0 1 = cc in absurd (omega arith)
four_are_small (a ∷ b ∷ c ∷ d ∷ []) j h = with_high_is_small (parsed a) (parsed b) (parsed c) (parsed d) j h
four_are_small (a ∷ b ∷ c ∷ d ∷ e ∷ r) j h = let z : ◌≡◌ {A = ℕ} 0 1 = cc in absurd (omega arith)

line_is_small : (k : Kind) (t : List ℕ) (j : RangeInjection) → reading_line k t ≡ Some j → SmallReading j
line_is_small Ranges t j h = four_are_small (parts t) j h
line_is_small Plain t j h = by (sample_line t) refl h
  where
    by : (o : Option Injection) → sample_line t ≡ o → standing_twice o ≡ Some j → SmallReading j
    by None e h = let z : ◌≡◌ {A = ℕ} 0 1 = cc in absurd (omega arith)
    by (Some i) e h =
        let f = (sample_line_text t i e).1 in
        let q : ◌≡◌ {A = RangeInjection} (record { minute = i.minute; injection = i.injection; low = i.value; high = i.value }) j = cc in
        rw (← q) (record { minute = f.minute_range; low = f.value_range; high = f.value_range })

last_decides : (xs : List ℕ) (m y : ℕ) → decreases ((xs ++ m ∷ []) ++ y ∷ []) (length (xs ++ m ∷ [])) ≡ ltb y m
last_decides [] m y = refl
last_decides (a ∷ []) m y = refl
last_decides (a ∷ b ∷ r) m y = last_decides (b ∷ r) m y

-- the kept readings earn none of 4, 15 and 6, and no line's minute that may follow is below one of theirs
pub record FitReadings (L : Limits) (r : Readings) : Type 0 where
  pub even_lows : length r.minutes ≡ length r.lows
  pub even_highs : length r.minutes ≡ length r.highs
  pub few : length r.minutes ≤ L.samples
  pub small_minutes : AtMost max_u16 r.minutes
  pub small_lows : AtMost max_u16 r.lows
  pub small_highs : AtMost max_u16 r.highs
  pub rising : (k : ℕ) → k < length r.minutes → decreases r.minutes k ≡ false
  pub uncrossed : (k : ℕ) → k < length r.lows → crossed r.lows r.highs k ≡ false
  pub none_above : (y : ℕ) → decreases (r.all ++ y ∷ []) (length r.all) ≡ false → AtMost y r.minutes

no_reading : (L : Limits) → FitReadings L no_readings
no_reading L =
    record {
      even_lows = refl;
      even_highs = refl;
      few = omega arith;
      small_minutes = λ k l. absurd (omega arith);
      small_lows = λ k l. absurd (omega arith);
      small_highs = λ k l. absurd (omega arith);
      rising = λ k l. absurd (omega arith);
      uncrossed = λ k l. absurd (omega arith);
      none_above = λ y e k l. absurd (omega arith);
    }

-- a list of numbers up to m with one more
at_most_more : (m : ℕ) (xs : List ℕ) (x : ℕ) → AtMost m xs → x ≤ m → AtMost m (xs ++ x ∷ [])
at_most_more m xs x f l k h =
    let n = one_longer xs x in
    each_more (λ k. get_or (xs ++ x ∷ []) k 0 ≤ m) (length xs) (λ k h. rw (before_last xs x k h) (f k h)) (rw (at_last xs x) l) k (omega arith)

-- a list up to x with x behind it does not fall there
rises_to : (xs : List ℕ) (x k : ℕ) → k ≡ length xs → AtMost x xs → decreases (xs ++ x ∷ []) k ≡ false
rises_to xs x zero e f = refl
rises_to xs x (suc k) e f =
    rw (before_last xs x k (omega arith), e, at_last xs x) (le-ltb x (get_or xs k 0) (f k (omega arith)))

module _ (L : Limits) (p : ℕ) (r : Readings) (j : RangeInjection) (w : FitReadings L r) (s : SmallReading j)
    (e : first_of (reading_checks L p r.all (length r.minutes) j) ≡ None) where
  follows : decreases (r.all ++ j.minute ∷ []) (length r.all) ≡ false
  follows = at_none p _ (none_holds (reading_checks L p r.all (length r.minutes) j) e).0

  ends : ltb j.high j.low ≡ false
  ends = at_none p _ (none_holds (reading_checks L p r.all (length r.minutes) j) e).1.0

  room : (kept_range j && leb L.samples (length r.minutes)) ≡ false
  room = at_none p _ (none_holds (reading_checks L p r.all (length r.minutes) j) e).1.1.0

  -- no minute so far is above the line's, so none is above a later line's
  still_none_above : (y : ℕ) → decreases ((r.all ++ j.minute ∷ []) ++ y ∷ []) (length (r.all ++ j.minute ∷ [])) ≡ false
      → (j.minute ≤ y) × AtMost y r.minutes
  still_none_above y h =
      let l : j.minute ≤ y = ltb-false y j.minute (sym (last_decides r.all j.minute y) ∙ h) in
      (l, λ k q. le_trans (w.none_above j.minute follows k q) l)

  dropped : FitReadings L (record { all = r.all ++ j.minute ∷ []; minutes = r.minutes; lows = r.lows; highs = r.highs })
  dropped =
      record {
        even_lows = w.even_lows;
        even_highs = w.even_highs;
        few = w.few;
        small_minutes = w.small_minutes;
        small_lows = w.small_lows;
        small_highs = w.small_highs;
        rising = w.rising;
        uncrossed = w.uncrossed;
        none_above = λ y h. (still_none_above y h).1;
      }

  kept : length r.minutes < L.samples
      → FitReadings L
      (record {
        all = r.all ++ j.minute ∷ [];
        minutes = r.minutes ++ j.minute ∷ [];
        lows = r.lows ++ j.low ∷ [];
        highs = r.highs ++ j.high ∷ [];
      })
  kept q =
      let a = one_longer r.minutes j.minute in
      let b = one_longer r.lows j.low in
      let c = one_longer r.highs j.high in
      record {
        even_lows = omega (arith, w.even_lows);
        even_highs = omega (arith, w.even_highs);
        few = omega arith;
        small_minutes = at_most_more max_u16 r.minutes j.minute w.small_minutes s.minute;
        small_lows = at_most_more max_u16 r.lows j.low w.small_lows s.low;
        small_highs = at_most_more max_u16 r.highs j.high w.small_highs s.high;
        rising = λ k l.
            each_more (λ k. decreases (r.minutes ++ j.minute ∷ []) k ≡ false) (length r.minutes)
            (λ k l. decreases_before r.minutes j.minute k l ∙ w.rising k l)
            (rises_to r.minutes j.minute (length r.minutes) refl (w.none_above j.minute follows)) k (omega arith);
        uncrossed = λ k l.
            each_more (λ k. crossed (r.lows ++ j.low ∷ []) (r.highs ++ j.high ∷ []) k ≡ false) (length r.lows)
            (λ k l. rw (before_last r.lows j.low k l, before_last r.highs j.high k (omega (arith, w.even_lows, w.even_highs))) (w.uncrossed k l))
            (crossed_at_last (sym w.even_lows ∙ w.even_highs)) k (omega arith);
        none_above = λ y h.
            at_most_more y r.minutes j.minute (still_none_above y h).1 (still_none_above y h).0;
      }
    where
      crossed_at_last : length r.lows ≡ length r.highs → crossed (r.lows ++ j.low ∷ []) (r.highs ++ j.high ∷ []) (length r.lows) ≡ false
      crossed_at_last q =
          rw (at_last r.lows j.low, q, at_last r.highs j.high) ends

  one_line_more : FitReadings L (with_line r j)
  one_line_more = by (kept_range j) room
    where
      by : (b : Bool) → (b && leb L.samples (length r.minutes)) ≡ false
          → FitReadings L
          (record {
            all = r.all ++ j.minute ∷ [];
            minutes = add_kept b j.minute r.minutes;
            lows = add_kept b j.low r.lows;
            highs = add_kept b j.high r.highs;
          })
      by true h = kept (leb-false L.samples (length r.minutes) h)
      by false h = dropped

module _ (L : Limits) (k : Kind) (x : Readings) where
  at_a_line : (p : ℕ) (r : Readings) (t : List ℕ) (next : Readings → Answer Readings) → FitReadings L r
      → ((y : Readings) → FitReadings L y → next y ≡ given x → FitReadings L x) → with_reading L p r (reading_line k t) next ≡ given x → FitReadings L x
  at_a_line p r t next w go = by (reading_line k t) refl
    where
      checked : (j : RangeInjection) → reading_line k t ≡ Some j → (o : Option Fault) → first_of (reading_checks L p r.all (length r.minutes) j) ≡ o
          → or_next o (next (with_line r j)) ≡ given x → FitReadings L x
      checked j e None q h = go _ (one_line_more L p r j w (line_is_small k t j e) q) h
      checked j e (Some f) q h = let z : ◌≡◌ {A = ℕ} 0 1 = cc in absurd (omega arith)

      by : (o : Option RangeInjection) → reading_line k t ≡ o → with_reading L p r o next ≡ given x → FitReadings L x
      by None e h = let z : ◌≡◌ {A = ℕ} 0 1 = cc in absurd (omega arith)
      by (Some j) e h = checked j e (first_of (reading_checks L p r.all (length r.minutes) j)) refl h

  fit_lines : (p : ℕ) (r : Readings) (ls : Lines) → FitReadings L r → read_readings L k p r ls given ≡ given x → FitReadings L x
  fit_lines p r end w h = let q : ◌≡◌ {A = Readings} r x = cc in rw (← q) w
  fit_lines p r (unended t) w h = let z : ◌≡◌ {A = ℕ} 0 1 = cc in absurd (omega arith)
  fit_lines p r (line t e ls) w h = at_a_line p r t _ w (λ y v q. fit_lines (next_place p t e) y ls v q) h

pub readings_are_fit : (L : Limits) (k : Kind) (p : ℕ) (ls : Lines) (x : Readings) → read_readings L k p no_readings ls given ≡ given x → FitReadings L x
readings_are_fit L k p ls x h = fit_lines L k x p no_readings ls (no_reading L) h
