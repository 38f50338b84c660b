-- The reader's meaning from that of the sheet, which is read into lists of its own.
use Prim.Native.Nat.{ℕ, ◌≤◌}
use mathlib.Core.Path.{◌≡◌, ◌∙◌}
use mathlib.Core.Bool.{true}
use mathlib.Core.List.{List, ◌++◌}
use native.Mathlib.Omega.{arith}
use lib.ListN.{length, take, drop}
use lib.Seq.{length-take-le}
use Rattle.meanings.specs.declared.Refusal.{Refusal}
use Rattle.meanings.specs.Limits.{full}
use Rattle.meanings.specs.Reports.{refused, fault_of}
use Rattle.std.specs.Prelude.{Result, Ok, Err}
use Rattle.meanings.specs.declared.ranges.RangeCounts.{RangeCounts}
use Rattle.meanings.specs.ranges.RangeSheet.{read_either}
use Rattle.meanings.specs.ranges.RangeCalls.{read_ranges}
use Rattle.sheet.specs.Copied.{copied}
use Rattle.sheet.proofs.Copies.{copied_front, copied_part}
use Rattle.sheet.specs.ScanStages.{uneven_reader, EitherScanned, FullLists}
use Rattle.sheet.proofs.ScanScans.{minutes_off, lows_off, highs_off, points_off, bandwidths_off, all_even, same_read}
use Rattle.sheet.specs.RangeReaderStages.{ReadInto, ReadLent}

-- a list copied whole to the front of another
abbrev pub whole : List ℕ → List ℕ → List ℕ
whole xs out = copied xs (length xs) out

-- the reader's own lists, and the lent ones
module _ {s ts ls us zs hs : List ℕ} where
  pub reading_refused : {ts₀ ls₀ us₀ zs₀ hs₀ : List ℕ} {r : Refusal} → EitherScanned s (Err r) ts ls us zs hs
      → ReadInto s ts₀ ls₀ us₀ zs₀ hs₀ (Err r) ts₀ ls₀ us₀ zs₀ hs₀
  reading_refused scanned =
      let o = scanned.outcome in record { answer = rw o; minutes = rw o; lows = rw o; highs = rw o; points = rw o; bandwidths = rw o }

  module _ {c : RangeCounts} (scanned : EitherScanned s (Ok c) ts ls us zs hs) where
    samples_fit : (xs : List ℕ) → length xs ≡ 1024 → c.samples ≤ length xs
    samples_fit xs l = let u = scanned.within in omega (arith, u.0)

    points_fit : (xs : List ℕ) → length xs ≡ 512 → c.points ≤ length xs
    points_fit xs l = let u = scanned.within in omega (arith, u.1)

    sample_part : (xs out out' : List ℕ) → length xs ≡ 1024 → length out ≡ 1024 → out' ≡ whole (take c.samples xs) out
        → out' ≡ take c.samples xs ++ drop c.samples out
    sample_part xs out out' a b e =
        e
        ∙ copied_part xs c.samples out (samples_fit xs a) (samples_fit out b)
        ∙ copied_front xs c.samples out (samples_fit xs a) (samples_fit out b)

    point_part : (xs out out' : List ℕ) → length xs ≡ 512 → length out ≡ 512 → out' ≡ whole (take c.points xs) out
        → out' ≡ take c.points xs ++ drop c.points out
    point_part xs out out' a b e =
        e
        ∙ copied_part xs c.points out (points_fit xs a) (points_fit out b)
        ∙ copied_front xs c.points out (points_fit xs a) (points_fit out b)

    pub reading_used : {ts₀ ls₀ us₀ zs₀ hs₀ ts₁ ls₁ us₁ zs₁ hs₁ : List ℕ} → FullLists ts ls us zs hs
        → length ts₀ ≡ 1024 → length ls₀ ≡ 1024 → length us₀ ≡ 1024 → length zs₀ ≡ 512 → length hs₀ ≡ 512
        → ts₁ ≡ whole (take c.samples ts) ts₀ → ls₁ ≡ whole (take c.samples ls) ls₀ → us₁ ≡ whole (take c.samples us) us₀
        → zs₁ ≡ whole (take c.points zs) zs₀ → hs₁ ≡ whole (take c.points hs) hs₀
        → ReadInto s ts₀ ls₀ us₀ zs₀ hs₀ (Ok c) ts₁ ls₁ us₁ zs₁ hs₁
    reading_used {ts₀} {ls₀} {us₀} {zs₀} {hs₀} l at al au az ah et el eu ez eh =
        let o = scanned.outcome in
        let kt = length-take-le c.samples ts (samples_fit ts l.0) in
        let kl = length-take-le c.samples ls (samples_fit ls l.1) in
        let ku = length-take-le c.samples us (samples_fit us l.2) in
        let kz = length-take-le c.points zs (points_fit zs l.3) in
        let kh = length-take-le c.points hs (points_fit hs l.4) in
        record {
          answer = rw (o, kt, kz);
          minutes = rw (o, kt) (sample_part ts ts₀ _ l.0 at et);
          lows = rw (o, kl) (sample_part ls ls₀ _ l.1 al el);
          highs = rw (o, ku) (sample_part us us₀ _ l.2 au eu);
          points = rw (o, kz) (point_part zs zs₀ _ l.3 az ez);
          bandwidths = rw (o, kh) (point_part hs hs₀ _ l.4 ah eh);
        }

-- the lengths of the lent lists, one after another; with all of them the meaning is that of the sheet alone
module _ (s ts ls us zs hs : List ℕ) where
  abbrev pub Uneven : Type 0
  Uneven = read_ranges full s ts ls us zs hs ≡ refused (record { number = 8; place = 0 })

  refused_uneven : uneven_reader full (length ts) (length ls) (length us) (length zs) (length hs) ≡ true → Uneven
  unfolding read_ranges
  refused_uneven e = rw e

  pub minutes_uneven : ¬ (length ts ≡ 1024) → Uneven
  minutes_uneven n = refused_uneven (minutes_off (length ts) (length ls) (length us) (length zs) (length hs) n)

  pub lows_uneven : length ts ≡ 1024 → ¬ (length ls ≡ 1024) → Uneven
  lows_uneven x n = refused_uneven (lows_off (length ts) (length ls) (length us) (length zs) (length hs) x n)

  pub highs_uneven : length ts ≡ 1024 → length ls ≡ 1024 → ¬ (length us ≡ 1024) → Uneven
  highs_uneven x y n = refused_uneven (highs_off (length ts) (length ls) (length us) (length zs) (length hs) x y n)

  pub points_uneven : length ts ≡ 1024 → length ls ≡ 1024 → length us ≡ 1024 → ¬ (length zs ≡ 512) → Uneven
  points_uneven x y z n = refused_uneven (points_off (length ts) (length ls) (length us) (length zs) (length hs) x y z n)

  pub bandwidths_uneven : length ts ≡ 1024 → length ls ≡ 1024 → length us ≡ 1024 → length zs ≡ 512 → ¬ (length hs ≡ 512) → Uneven
  bandwidths_uneven x y z w n = refused_uneven (bandwidths_off (length ts) (length ls) (length us) (length zs) (length hs) x y z w n)

  pub even_read : length ts ≡ 1024 → length ls ≡ 1024 → length us ≡ 1024 → length zs ≡ 512 → length hs ≡ 512
      → read_ranges full s ts ls us zs hs ≡ read_either full s
  even_read x y z w v = same_read s ts ls us zs hs (all_even (length ts) (length ls) (length us) (length zs) (length hs) x y z w v)

-- what is left and answered then
module _ {s ts ls us zs hs : List ℕ} where
  pub lent_uneven : {r : Refusal} → fault_of r ≡ record { number = 8; place = 0 } → Uneven s ts ls us zs hs
      → ReadLent s ts ls us zs hs (Err r) ts ls us zs hs
  lent_uneven e u = record { answer = rw (u, e); minutes = rw u; lows = rw u; highs = rw u; points = rw u; bandwidths = rw u }

  pub lent_even : {r : Result RangeCounts Refusal} {ts' ls' us' zs' hs' : List ℕ} → read_ranges full s ts ls us zs hs ≡ read_either full s
      → ReadInto s ts ls us zs hs r ts' ls' us' zs' hs' → ReadLent s ts ls us zs hs r ts' ls' us' zs' hs'
  lent_even e w =
      record {
        answer = rw e w.answer;
        minutes = rw e w.minutes;
        lows = rw e w.lows;
        highs = rw e w.highs;
        points = rw e w.points;
        bandwidths = rw e w.bandwidths;
      }
