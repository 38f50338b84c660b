-- Boxes by two tables of cumulative sums, modulo 2^64. xs and ys are tables; a and b are the first strip of a minute window and the one behind it, c
-- and d those of a temperature window; fs and es, ls and hs are lists of these; bs is the list of boxes.
use Rattle.std.specs.Prelude.{◌≡◌, ℕ, ◌+◌, ◌*◌, ◌<◌, ◌≤◌, List, [], ◌∷◌, length, slice_index}
use Rattle.meanings.specs.Running.{plus, minus}
use Rattle.meanings.specs.boxes.Boxes.{joined}

-- number b of row a
abbrev pub number_at : List ℕ → ℕ → ℕ → ℕ
number_at xs a b = slice_index xs (66 * a + b)

unfoldable pub four_terms : List ℕ → ℕ → ℕ → ℕ → ℕ → ℕ
four_terms xs a b c d = minus 64 (minus 64 (plus 64 (number_at xs b d) (number_at xs a c)) (number_at xs a d)) (number_at xs b c)

-- count and value sum of a pair of windows
abbrev pub pair_places : List ℕ → List ℕ → ℕ → ℕ → List ℕ → List ℕ → ℕ → List ℕ
pair_places xs ys a b ls hs k = four_terms xs a b (slice_index ls k) (slice_index hs k) ∷ four_terms ys a b (slice_index ls k) (slice_index hs k) ∷ []

-- those of one minute window with each of m temperature windows
unfoldable pub table_row : List ℕ → List ℕ → ℕ → ℕ → List ℕ → List ℕ → ℕ → List ℕ
table_row xs ys a b ls hs m = joined (pair_places xs ys a b ls hs) m

-- and of each of n minute windows
unfoldable pub table_boxes : List ℕ → List ℕ → List ℕ → List ℕ → ℕ → List ℕ → List ℕ → ℕ → List ℕ
table_boxes xs ys fs es n ls hs m = joined (λ j. table_row xs ys (slice_index fs j) (slice_index es j) ls hs m) n

-- the first n numbers of both lists are strips
pub record Strips (fs es : List ℕ) (n : ℕ) : Type 0 where
  pub firsts : n ≤ length fs
  pub ends : n ≤ length es
  pub first : (k : ℕ) → k < n → slice_index fs k ≤ 65
  pub end : (k : ℕ) → k < n → slice_index es k ≤ 65

-- two tables, strips of at most 32 windows of each direction, and two numbers for each pair
pub record Fitting (xs ys fs es : List ℕ) (n : ℕ) (ls hs : List ℕ) (m : ℕ) (bs : List ℕ) : Type 0 where
  pub counts : length xs ≡ 4356
  pub sums : length ys ≡ 4356
  pub few : n ≤ 32
  pub other_few : m ≤ 32
  pub room : length bs ≡ 2 * n * m
  pub strips : Strips fs es n
  pub others : Strips ls hs m

-- a list that does not fit is left
pub record BoxesTried (xs ys fs es : List ℕ) (n : ℕ) (ls hs : List ℕ) (m : ℕ) (bs₀ bs : List ℕ) : Type 0 where
  pub put : Fitting xs ys fs es n ls hs m bs₀ → bs ≡ table_boxes xs ys fs es n ls hs m
  pub left : ¬ Fitting xs ys fs es n ls hs m bs₀ → bs ≡ bs₀
