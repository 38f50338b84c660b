-- The pass over a run: before each turn weight and sum are those of the readings before i. Each weight is at most 720⁴ and each value below 2^16, so of
-- at most 1,024 readings no sum reaches 2^64.
use Prim.Native.Nat.{ℕ, ◌+◌, ◌*◌, ◌^◌, ◌≤◌, ◌<◌}
use mathlib.Core.Path.{◌≡◌, refl, ap, ◌∙◌}
use mathlib.Core.List.{List}
use native.Mathlib.Nat.{zero-add, mul-le-mul_left}
use native.Mathlib.Numerals.{add-one}
use native.Mathlib.Omega.{arith}
use lib.ListN.{length, get_or}
use denote.Ref.{Bor}
use Rattle.std.specs.Prelude.{Option, Some}
use Rattle.std.specs.declared.iter.Zip.{Zip}
use Rattle.std.specs.declared.slice.Iter.{Iter}
use Rattle.std.proofs.iter.Yields.{fronts}
use Rattle.std.proofs.lemmas.Iterator.{zips}
use Rattle.std.proofs.lemmas.Slice.Zip.{zip_turn}
use Rattle.std.specs.Iterator.{Yields}
use Rattle.std.specs.Iterator.Adapters.{zip_first, zip_second}
use Rattle.std.specs.Slice.Iter.{iter_rest}
use Rattle.std.specs.Int.{abs_diff}
use Rattle.meanings.specs.Lists.{distance, total}
use Rattle.meanings.specs.biweight.Biweight.{biweight_bandwidth, biweight_at}
use Rattle.meanings.proofs.BiweightBounds.{biweight_at_most}
use Rattle.questions.specs.Rows.{ShortRun, weight_term, sum_term}

-- the library's distance is the meaning's
apart : (a b : ℕ) → abs_diff a b ≡ distance a b
unfolding distance
apart a b = refl

total_grows : (g : ℕ → ℕ) (i : ℕ) → total g 0 i + g i ≡ total g 0 (i + 1)
total_grows g i = rw (add-one i, zero-add i)

-- reading i of the run
pub record IsReading (ts vs : List ℕ) (i t v : ℕ) : Type 0 where
  pub inside : i < length ts
  pub minute : t ≡ get_or ts i 0
  pub value : v ≡ get_or vs i 0

-- is the one that the iterator over minutes and values gives after i others
pub reading_given : (ts vs : List ℕ) (xs : List (Bor ℕ × Bor ℕ)) (s t u : Zip (Iter ℕ) (Iter ℕ)) (r : Option (Bor ℕ × Bor ℕ)) (p : Bor ℕ × Bor ℕ)
    → iter_rest (zip_first s) ≡ ts → iter_rest (zip_second s) ≡ vs → Yields (zips fronts fronts) s xs t → r ≡ Some p → zips fronts fronts t r u
    → IsReading ts vs (length xs) p.0.now p.1.now
reading_given ts vs xs s t u r p a b y e z =
    let n = zip_turn ts vs xs s t u r a b y p e z in
    record { inside = n.0; minute = n.2 0; value = n.3 0 }

-- of the run the readings before i are weighed
pub record WeighedTo (ts vs ws : List ℕ) (z i weight sum : ℕ) : Type 0 where
  pub run : ShortRun ts vs ws
  pub upto : i ≤ length ts
  pub weight_is : weight ≡ total (weight_term ts z) 0 i
  pub sum_is : sum ≡ total (sum_term ts vs z) 0 i
  pub weight_small : weight ≤ i * 268738560000
  pub sum_small : sum ≤ weight * 65535

module _ {ts vs ws : List ℕ} {z i weight sum : ℕ} (w : WeighedTo ts vs ws z i weight sum) where
  module _ {t v d one : ℕ} (r : IsReading ts vs i t v) (e : d ≡ abs_diff t z) (f : one ≡ get_or ws d 0) where
    one_is : one ≡ weight_term ts z i
    one_is = f ∙ w.run.table.rule d ∙ ap (biweight_at biweight_bandwidth) (e ∙ apart t z ∙ ap (λ (x : ℕ). distance x z) r.minute)

    one_small : one ≤ 268738560000
    one_small = let m = biweight_at_most biweight_bandwidth d in let q = f ∙ w.run.table.rule d in omega arith

    weight_bound : weight + one ≤ (i + 1) * 268738560000
    weight_bound = let o = one_small in let s = w.weight_small in omega arith

    few : i + 1 ≤ 1024
    few = let s = w.run.few in let l = r.inside in omega arith

    pub weight_fits : weight + one < 2 ^ 64
    weight_fits = let m = weight_bound in let n = few in omega arith

    module _ (small : v < 2 ^ 16) where
      term_small : one * v ≤ one * 65535
      term_small = mul-le-mul_left one (omega arith)

      pub term_fits : one * v < 2 ^ 64
      term_fits = let t = term_small in let o = one_small in omega arith

      sum_bound : sum + one * v ≤ (weight + one) * 65535
      sum_bound = let t = term_small in let s = w.sum_small in omega arith

      pub sum_fits : sum + one * v < 2 ^ 64
      sum_fits = let t = sum_bound in let m = weight_bound in let n = few in omega arith

      pub weighing_goes_on : {n : ℕ} → n ≡ i + 1 → WeighedTo ts vs ws z n (weight + one) (sum + one * v)
      weighing_goes_on e = rw e (record {
        run = w.run;
        upto = let l = r.inside in omega arith;
        weight_is = rw (one_is, w.weight_is) (total_grows (weight_term ts z) i);
        sum_is = rw (r.value, one_is, w.sum_is) (total_grows (sum_term ts vs z) i);
        weight_small = weight_bound;
        sum_small = sum_bound;
      })
