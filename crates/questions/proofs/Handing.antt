-- What is handed over, by what the code has seen of weight and number and made of the parts.
use Rattle.std.proofs.Common.{◌≡◌, ℕ, ◌<◌, ◌≤◌, ap, ◌∙◌}
use lib.Ieee.{Float}
use Rattle.meanings.specs.declared.Estimate.{Estimate}
use Rattle.meanings.specs.declared.doubles.Cell.{Cell}
use Rattle.meanings.specs.doubles.Doubles.{one, pair, double, handed, cell_doubles, one_limit, high_of, low_of, RowDoubles, row_handed}
use Rattle.meanings.proofs.Having.{handed_one, handed_pair}

pub one_handed : (w n : ℕ) (d : Float) → ¬ (w ≡ 0) → n < one_limit → d ≡ double n → one d ≡ handed w n
one_handed w n d e l q = ap one q ∙ handed_one w n e l

pub pair_handed : (w n : ℕ) (high low : Float) → ¬ (w ≡ 0) → one_limit ≤ n → high ≡ double (high_of n) → low ≡ double (low_of n)
    → pair high low ≡ handed w n
pair_handed w n high low e l p q = (λ i. pair (p i) (q i)) ∙ handed_pair w n e l

pub row_handed_over : (e : Estimate) (w s : Cell) → cell_doubles w ≡ handed e.weight e.weight → cell_doubles s ≡ handed e.weight e.sum
    → ◌≡◌ {A = RowDoubles} (record { weight = cell_doubles w; sum = cell_doubles s }) (row_handed e)
row_handed_over e w s p q = λ i. record { weight = p i; sum = q i }
