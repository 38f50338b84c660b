-- Wrong programs of another shape than the code, each shut out on a concrete input: what it would answer is not what the meaning says. The
-- others are edits of the code and of the table.
use Prim.Native.Nat.{ℕ, ◌+◌, ◌*◌, ◌/◌, ◌%◌, ◌^◌}
use mathlib.Core.Path.{◌≡◌, sym, ap, ◌∙◌}
use mathlib.Core.List.{[], ◌∷◌}
use native.Mathlib.Omega.{arith}
use lib.ListN.{replicate}
use Rattle.meanings.specs.declared.Estimate.{Estimate}
use Rattle.meanings.specs.Lists.{distance}
use Rattle.meanings.specs.Limits.{full}
use Rattle.meanings.specs.Reports.{Answer, given, refused}
use Rattle.meanings.specs.Estimate.{left_of, right_of, kernel, weight_of, sum_of, value_of, rounded, estimate}
use Rattle.meanings.specs.biweight.Biweight.{biweight_bandwidth, biweight_at, biweight_weight, biweight_sum, biweight_row, biweight}
use Rattle.meanings.specs.biweight.Cases.{row, is_report}
use Rattle.meanings.proofs.BiweightEqualSamples.{greatest_reached}

-- the numbers that tell such answers apart: a row's right, weight and value, of a report its number and place with 70,000 added
abbrev right_seen : Answer Estimate → ℕ
right_seen (given e) = e.right
right_seen (refused f) = 70000 + f.number

abbrev weight_seen : Answer Estimate → ℕ
weight_seen (given e) = e.weight
weight_seen (refused f) = 70000 + f.number

abbrev value_seen : Answer Estimate → ℕ
value_seen (given e) = e.value
value_seen (refused f) = 70000 + f.place

-- (2 × sum + weight) / (2 × weight) in 64 bits: right, but for halves, while 2 × sum + weight fits; at the greatest sum, over 2^63, it wraps
abbrev pub doubled : ℕ → ℕ → ℕ
doubled s w = (2 * s + w) % 2 ^ 64 / (2 * w % 2 ^ 64)

pub not_doubled : ¬ (biweight full (replicate 1024 5) (replicate 1024 65535) 5
    ≡ row 0 1024 275188285440000 18034464286310400000 (doubled 18034464286310400000 275188285440000))
not_doubled e = let n : ◌≡◌ {A = ℕ} 65535 (doubled 18034464286310400000 275188285440000) = ap value_seen (sym greatest_reached ∙ e) in omega arith

-- h² − u² as it stands, unsquared: the row of the question at one mark
pub not_unsquared : ¬ (biweight full (0 ∷ 719 ∷ []) (40 ∷ 7 ∷ []) 0 ≡ given (estimate (0 ∷ 719 ∷ []) (40 ∷ 7 ∷ []) 0 biweight_bandwidth))
unfolding biweight biweight_row biweight_weight biweight_sum biweight_at estimate weight_of sum_of kernel left_of right_of distance value_of rounded
not_unsquared e = let n : ◌≡◌ {A = ℕ} 268740630721 519839 = ap weight_seen e in omega arith

-- a window that is open at 720: the reading on its edge has no weight, but right counts it
pub not_open : ¬ (biweight full (720 ∷ []) (7 ∷ []) 0 ≡ row 0 0 0 0 65536)
unfolding biweight biweight_row biweight_weight biweight_sum biweight_at left_of right_of distance value_of rounded
not_open e = let n : ◌≡◌ {A = ℕ} 1 0 = ap right_seen e in omega arith

-- 0 for a missing value
pub not_missing_as_zero : ¬ (biweight full (720 ∷ []) (7 ∷ []) 0 ≡ row 0 1 0 0 0)
unfolding biweight biweight_row biweight_weight biweight_sum biweight_at left_of right_of distance value_of rounded
not_missing_as_zero e = let n : ◌≡◌ {A = ℕ} 65536 0 = ap value_seen e in omega arith

-- report 4 at place 0 instead of the later position
pub not_at_the_start : ¬ (biweight full (1 ∷ 2 ∷ 1 ∷ []) (1 ∷ 1 ∷ 1 ∷ []) 0 ≡ is_report 4 0)
unfolding biweight
not_at_the_start e = let n : ◌≡◌ {A = ℕ} 70002 70000 = ap value_seen e in omega arith

-- 719 minutes on each side
pub not_719 : ¬ (biweight full (719 ∷ []) (7 ∷ []) 0 ≡ given (biweight_row (719 ∷ []) (7 ∷ []) 0 719))
unfolding biweight biweight_row biweight_weight biweight_sum biweight_at left_of right_of distance value_of rounded
not_719 e = let n : ◌≡◌ {A = ℕ} 2070721 0 = ap weight_seen e in omega arith

-- one fixed answer
pub no_fixed_answer : (a : Answer Estimate) → ¬ ((z : ℕ) → biweight full (10 ∷ []) (40 ∷ []) z ≡ a)
unfolding biweight biweight_row biweight_weight biweight_sum biweight_at left_of right_of distance value_of rounded
no_fixed_answer a f =
    let first : 268738560000 ≡ weight_seen a = ap weight_seen (f 10) in
    let second : 268737523201 ≡ weight_seen a = ap weight_seen (f 11) in
    omega arith

-- the table read one minute further
pub not_the_next_distance : ¬ (biweight full (5 ∷ []) (7 ∷ []) 5 ≡ row 0 1 (biweight_at 720 1) (biweight_at 720 1 * 7) 7)
unfolding biweight biweight_row biweight_weight biweight_sum biweight_at left_of right_of distance value_of rounded
not_the_next_distance e = let n : ◌≡◌ {A = ℕ} 268738560000 268737523201 = ap weight_seen e in omega arith
