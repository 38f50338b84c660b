-- The whole sheet's meaning, stage by stage, for lists of full length and of any.
use Prim.Native.Nat.{ℕ}
use mathlib.Core.Path.{◌≡◌, sym, ap, ◌∙◌}
use mathlib.Core.Bool.{true, false}
use mathlib.Core.List.{List}
use lib.ListN.{length}
use Rattle.meanings.specs.declared.Refusal.{Refusal}
use Rattle.meanings.specs.declared.Report.TheVariants.{LengthMismatch}
use Rattle.meanings.specs.Limits.{full}
use Rattle.meanings.specs.Reports.{Answer}
use Rattle.std.specs.Prelude.{Result, Ok, Err}
use Rattle.meanings.specs.declared.ranges.RangeCounts.{RangeCounts}
use Rattle.meanings.specs.ranges.RangeSheet.{Front, read_either_from, read_either}
use Rattle.meanings.specs.ranges.RangeCalls.{read_ranges}
use Rattle.meanings.specs.ranges.EitherKind.{and_then}
use Rattle.meanings.proofs.Fronts.{front_then}
use Rattle.meanings.proofs.Checks.{differ_same, differ_true}
use Rattle.sheet.specs.declared.front.points.Front.{Front as PointsEnd}
use Rattle.sheet.specs.FrontStages.{front_read, FrontOutcome}
use Rattle.sheet.proofs.Fronts.{front_of_call}
use Rattle.sheet.specs.declared.names.Named.{Named}
use Rattle.sheet.specs.NamesStages.{NamedOutcome}
use Rattle.sheet.proofs.KindNames.{named_of_call}
use Rattle.sheet.specs.ScanStages.{uneven_reader, EitherScanned, ScanOutcome}

-- the front of the sheet, and what follows it
module _ {s zs hs : List ℕ} {m n : ℕ} (points : m ≡ 512) (bandwidths : n ≡ 512) where
  after_front : {r : Result PointsEnd Refusal} → FrontOutcome s m n r zs hs → read_either full s ≡ and_then (front_read r s zs hs) (read_either_from full)
  unfolding read_either
  after_front call =
      sym (front_then full s (read_either_from full))
      ∙ ap (λ (a : Answer Front). and_then a (read_either_from full)) (front_of_call call points bandwidths)

  pub front_refused : {ts ls us : List ℕ} {r : Refusal} → FrontOutcome s m n (Err r) zs hs → EitherScanned s (Err r) ts ls us zs hs
  front_refused call = record { outcome = after_front call; within = tt }

  module _ {f : PointsEnd} (call : FrontOutcome s m n (Ok f) zs hs) {u v w : ℕ} (minutes : u ≡ 1024) (lows : v ≡ 1024) (highs : w ≡ 1024)
      {ts ls us : List ℕ} where
    pub named_refused : {r : Refusal} → NamedOutcome s f.next u v w (Err r) ts ls us → EitherScanned s (Err r) ts ls us zs hs
    named_refused named = record { outcome = after_front call ∙ named_of_call named minutes lows highs _ _; within = tt }

    pub either_used : {k : Named} → NamedOutcome s f.next u v w (Ok k) ts ls us
        → EitherScanned s (Ok (record { samples = k.count; points = f.count; kind = k.kind })) ts ls us zs hs
    either_used named =
        record { outcome = after_front call ∙ named_of_call named minutes lows highs _ _; within = (named.within, call.within.0) }

-- lists of any lengths
pub same_read : (s ts ls us zs hs : List ℕ) → uneven_reader full (length ts) (length ls) (length us) (length zs) (length hs) ≡ false
    → read_ranges full s ts ls us zs hs ≡ read_either full s
unfolding read_ranges
same_read s ts ls us zs hs e = rw e

-- the lengths of the lists, one after another
module _ (a b c d e : ℕ) where
  pub minutes_off : ¬ (a ≡ 1024) → uneven_reader full a b c d e ≡ true
  minutes_off n = rw (differ_true a 1024 n)

  module _ (x : a ≡ 1024) where
    pub lows_off : ¬ (b ≡ 1024) → uneven_reader full a b c d e ≡ true
    lows_off n = rw (differ_same a 1024 x, differ_true b 1024 n)

    module _ (y : b ≡ 1024) where
      pub highs_off : ¬ (c ≡ 1024) → uneven_reader full a b c d e ≡ true
      highs_off n = rw (differ_same a 1024 x, differ_same b 1024 y, differ_true c 1024 n)

      module _ (z : c ≡ 1024) where
        pub points_off : ¬ (d ≡ 512) → uneven_reader full a b c d e ≡ true
        points_off n = rw (differ_same a 1024 x, differ_same b 1024 y, differ_same c 1024 z, differ_true d 512 n)

        module _ (w : d ≡ 512) where
          pub bandwidths_off : ¬ (e ≡ 512) → uneven_reader full a b c d e ≡ true
          bandwidths_off n = rw (differ_same a 1024 x, differ_same b 1024 y, differ_same c 1024 z, differ_same d 512 w, differ_true e 512 n)

          pub all_even : e ≡ 512 → uneven_reader full a b c d e ≡ false
          all_even v = rw (differ_same a 1024 x, differ_same b 1024 y, differ_same c 1024 z, differ_same d 512 w, differ_same e 512 v)

module _ {s ts₀ ls₀ us₀ zs₀ hs₀ : List ℕ} where
  pub bandwidths_uneven : length ts₀ ≡ 1024 → length ls₀ ≡ 1024 → length us₀ ≡ 1024 → length zs₀ ≡ 512 → ¬ (length hs₀ ≡ 512)
      → {r : Refusal} {ts ls us zs hs : List ℕ} → r ≡ (record { report = LengthMismatch; place = 0 }) → ScanOutcome s ts₀ ls₀ us₀ zs₀ hs₀ (Err r) ts ls us zs hs
  unfolding read_ranges
  bandwidths_uneven x y z w n d =
      record { outcome = rw (bandwidths_off (length ts₀) (length ls₀) (length us₀) (length zs₀) (length hs₀) x y z w n, d); within = tt }

  pub scanned_of_call : {r : Result RangeCounts Refusal} {ts ls us zs hs : List ℕ}
      → uneven_reader full (length ts₀) (length ls₀) (length us₀) (length zs₀) (length hs₀) ≡ false
      → ScanOutcome s ts₀ ls₀ us₀ zs₀ hs₀ r ts ls us zs hs → EitherScanned s r ts ls us zs hs
  scanned_of_call e x = record { outcome = sym (same_read s ts₀ ls₀ us₀ zs₀ hs₀ e) ∙ x.outcome; within = x.within }
