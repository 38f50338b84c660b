-- What the functions over a table of cumulative sums ask and say. cs is a list of 4,225 cells, ts the table.
use Rattle.std.specs.Prelude.{ℕ, ◌+◌, ◌*◌, ◌≤◌, ◌≡◌, List, length, get_or}
use Rattle.meanings.specs.Lists.{total}

-- the first b cells of strip a, added up
unfoldable pub row_sum : List ℕ → ℕ → ℕ → ℕ
row_sum cs a b = total (λ y. get_or cs (65 * a + y) 0) 0 b

-- the first b cells of each of the first a strips
unfoldable pub cumulative : List ℕ → ℕ → ℕ → ℕ
cumulative cs a b = total (λ x. row_sum cs x b) 0 a

pub record Sized (cs ts : List ℕ) : Type 0 where
  pub cells : length cs ≡ 4225
  pub room : length ts ≡ 4356

-- rows 0 to a hold the sums
pub record RowsTo (cs ts : List ℕ) (a : ℕ) : Type 0 where
  pub holds : (x y : ℕ) → x ≤ a → y ≤ 65 → get_or ts (66 * x + y) 0 ≡ cumulative cs x y

-- number 66 a + b is the sum over the first b cells of the first a strips
pub record Accumulated (cs ts : List ℕ) : Type 0 where
  pub room : length ts ≡ 4356
  pub holds : (x y : ℕ) → x ≤ 65 → y ≤ 65 → get_or ts (66 * x + y) 0 ≡ cumulative cs x y

pub record Tried (cs ts₀ ts : List ℕ) : Type 0 where
  pub filled : Sized cs ts₀ → Accumulated cs ts
  pub left : ¬ Sized cs ts₀ → ts ≡ ts₀
