-- The whole sheet's meaning, stage by stage, and the reader's from it.
use Prim.Native.Nat.{ℕ}
use mathlib.Core.Path.{◌≡◌, sym, ap, ◌∙◌}
use mathlib.Core.List.{List, ◌++◌}
use native.Mathlib.Omega.{arith}
use lib.ListN.{length, take, drop}
use lib.Seq.{length-take-le}
use Rattle.meanings.specs.declared.Refusal.{Refusal}
use Rattle.std.specs.Prelude.{Result, Ok, Err}
use Rattle.meanings.specs.declared.Counts.{Counts}
use Rattle.meanings.specs.Limits.{full}
use Rattle.meanings.specs.Reports.{Answer, refused, fault_of}
use Rattle.meanings.specs.Sheet.{read_sheet}
use Rattle.meanings.specs.Calls.{read}
use Rattle.meanings.proofs.Checks.{differ_same, differ_true}
use Rattle.meanings.specs.ranges.RangeSheet.{Front}
use Rattle.meanings.specs.ranges.EitherKind.{and_then}
use Rattle.meanings.proofs.Fronts.{front_then, plain_from, plain_is_front}
use Rattle.sheet.specs.declared.front.points.Front.{Front as PointsEnd}
use Rattle.sheet.specs.FrontStages.{front_read, FrontOutcome}
use Rattle.sheet.proofs.Fronts.{front_of_call}
use Rattle.sheet.specs.SamplesStages.{SamplesOutcome}
use Rattle.sheet.proofs.SampleLoop.{samples_of_call}
use Rattle.sheet.specs.ReaderStages.{FullLists, Scanned, ReadInto, ReadLent}

-- the front of the sheet, read into lists of full length
module _ {s zs hs : List ℕ} {m n : ℕ} (points : m ≡ 512) (bandwidths : n ≡ 512) where
  after_front : {r : Result PointsEnd Refusal} → FrontOutcome s m n r zs hs → read_sheet full s ≡ and_then (front_read r s zs hs) (plain_from full)
  after_front call =
      plain_is_front full s ∙ sym (front_then full s (plain_from full))
      ∙ ap (λ (a : Answer Front). and_then a (plain_from full)) (front_of_call call points bandwidths)

  pub front_refused : {ts vs : List ℕ} {r : Refusal} → FrontOutcome s m n (Err r) zs hs → Scanned s (Err r) ts vs zs hs
  front_refused call = record { outcome = after_front call; within = tt }

  module _ {f : PointsEnd} (call : FrontOutcome s m n (Ok f) zs hs) {u v : ℕ} (minutes : u ≡ 1024) (values : v ≡ 1024) {ts vs : List ℕ} where
    pub samples_refused : {r : Refusal} → SamplesOutcome s f.next u v (Err r) ts vs → Scanned s (Err r) ts vs zs hs
    samples_refused samples = record { outcome = after_front call ∙ samples_of_call samples minutes values _ _; within = tt }

    pub sheet_used : {i : ℕ} → SamplesOutcome s f.next u v (Ok i) ts vs → Scanned s (Ok (record { samples = i; points = f.count })) ts vs zs hs
    sheet_used samples =
        record { outcome = after_front call ∙ samples_of_call samples minutes values _ _; within = (samples.within, call.within.0) }

-- the reader's own lists ts, vs, zs, hs, and the lent ones
module _ {s ts vs zs hs : List ℕ} where
  pub reading_refused : {ts₀ vs₀ zs₀ hs₀ : List ℕ} {r : Refusal} → Scanned s (Err r) ts vs zs hs → ReadInto s ts₀ vs₀ zs₀ hs₀ (Err r) ts₀ vs₀ zs₀ hs₀
  reading_refused scanned =
      let o = scanned.outcome in record { answer = rw o; minutes = rw o; values = rw o; points = rw o; bandwidths = rw o }

  module _ {c : Counts} (scanned : Scanned s (Ok c) ts vs zs hs) where
    pub reading_used : {ts₀ vs₀ zs₀ hs₀ ts₁ vs₁ zs₁ hs₁ : List ℕ} → FullLists ts vs zs hs
        → ts₁ ≡ take c.samples ts ++ drop c.samples ts₀ → vs₁ ≡ take c.samples vs ++ drop c.samples vs₀
        → zs₁ ≡ take c.points zs ++ drop c.points zs₀ → hs₁ ≡ take c.points hs ++ drop c.points hs₀ → ReadInto s ts₀ vs₀ zs₀ hs₀ (Ok c) ts₁ vs₁ zs₁ hs₁
    reading_used l et ev ez eh =
        let o = scanned.outcome in
        let u = scanned.within in
        let kt = length-take-le c.samples ts (omega (arith, u.0, l.0)) in
        let kv = length-take-le c.samples vs (omega (arith, u.0, l.1)) in
        let kz = length-take-le c.points zs (omega (arith, u.1, l.2)) in
        let kh = length-take-le c.points hs (omega (arith, u.1, l.3)) in
        record { answer = rw (o, kt, kz); minutes = rw (o, kt) et; values = rw (o, kv) ev; points = rw (o, kz) ez; bandwidths = rw (o, kh) eh }

-- the lengths of the lent lists, one after another; with all of them the meaning is that of the sheet alone
module _ (s ts vs zs hs : List ℕ) where
  abbrev pub Uneven : Type 0
  Uneven = read full s ts vs zs hs ≡ refused (record { number = 8; place = 0 })

  pub minutes_uneven : ¬ (length ts ≡ 1024) → Uneven
  unfolding read
  minutes_uneven d = rw (differ_true (length ts) 1024 d)

  module _ (a : length ts ≡ 1024) where
    pub values_uneven : ¬ (length vs ≡ 1024) → Uneven
    unfolding read
    values_uneven d = rw (differ_same (length ts) 1024 a, differ_true (length vs) 1024 d)

    module _ (b : length vs ≡ 1024) where
      pub points_uneven : ¬ (length zs ≡ 512) → Uneven
      unfolding read
      points_uneven d = rw (differ_same (length ts) 1024 a, differ_same (length vs) 1024 b, differ_true (length zs) 512 d)

      module _ (e : length zs ≡ 512) where
        pub bandwidths_uneven : ¬ (length hs ≡ 512) → Uneven
        unfolding read
        bandwidths_uneven d =
            rw (differ_same (length ts) 1024 a, differ_same (length vs) 1024 b, differ_same (length zs) 512 e, differ_true (length hs) 512 d)

        pub even_read : length hs ≡ 512 → read full s ts vs zs hs ≡ read_sheet full s
        unfolding read
        even_read f =
            rw (differ_same (length ts) 1024 a, differ_same (length vs) 1024 b, differ_same (length zs) 512 e, differ_same (length hs) 512 f)

-- what is left and answered then
module _ {s ts vs zs hs : List ℕ} where
  pub lent_uneven : {r : Refusal} → fault_of r ≡ record { number = 8; place = 0 } → Uneven s ts vs zs hs → ReadLent s ts vs zs hs (Err r) ts vs zs hs
  lent_uneven e u = record { answer = rw (u, e); minutes = rw u; values = rw u; points = rw u; bandwidths = rw u }

  pub lent_even : {r : Result Counts Refusal} {ts' vs' zs' hs' : List ℕ} → read full s ts vs zs hs ≡ read_sheet full s
      → ReadInto s ts vs zs hs r ts' vs' zs' hs' → ReadLent s ts vs zs hs r ts' vs' zs' hs'
  lent_even e w = record { answer = rw e w.answer; minutes = rw e w.minutes; values = rw e w.values; points = rw e w.points; bandwidths = rw e w.bandwidths }
