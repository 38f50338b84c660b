-- What the table holds: at each distance the weight by the rule, from 0 to 720. Beyond it a reader finds nothing and gives 0, and so does the rule.
use Rattle.std.specs.Prelude.{ℕ, ◌≡◌, List, length, get_or}
use Rattle.meanings.specs.biweight.Biweight.{biweight_bandwidth, biweight_at}

pub record IsTable (xs : List ℕ) : Type 0 where
  pub entries : length xs ≡ 721
  pub rule : (u : ℕ) → get_or xs u 0 ≡ biweight_at biweight_bandwidth u
