-- What the functions over lists of cells ask and say. ts, us and vs are the readings' minutes, temperatures and values; ds are minute cuts, es
-- temperature cuts; cs and ss are the lists of counts and of value sums.
use Rattle.std.specs.Prelude.{ℕ, ◌+◌, ◌*◌, ◌≤◌, ◌<◌, ◌≡◌, Bool, true, false, List, length, get_or}
use Rattle.meanings.specs.boxes.Boxes.{minute_axis, temperature_axis, cuts_to, strip, one, value, cell_list}
use Rattle.boxes.specs.Cuts.{Ranked}

-- no more cuts than a direction has
pub record Searchable (ds es : List ℕ) : Type 0 where
  pub few : length ds ≤ 64
  pub other_few : length es ≤ 64

-- so many minutes, temperatures and values, so many cuts, and so many cells in both lists
pub record Fitting (t u v n m c s : ℕ) : Type 0 where
  pub even : t ≡ u
  pub even_values : t ≡ v
  pub few : t ≤ 1024
  pub few_cuts : n ≤ 64
  pub other_few_cuts : m ≤ 64
  pub counts : c ≡ 4225
  pub sums : s ≡ 4225

-- r says whether they fit
pub record FitsTested (t u v n m c s : ℕ) (r : Bool) : Type 0 where
  pub fits : r ≡ true → Fitting t u v n m c s
  pub unfit : r ≡ false → ¬ Fitting t u v n m c s

-- the cell of minute x and temperature y: one of the 4,225; by ranked cuts it is told by their strips
pub record CellFound (ds es : List ℕ) (x y r : ℕ) : Type 0 where
  pub within : r < 4225
  pub is : (ps qs : List ℕ) → Ranked ps ds (length ds) → Ranked qs es (length es) → r ≡ 65 * strip ps (x + 65537) + strip qs (y + 257)

-- lists that fit, the cells 0
pub record Clean (ts us vs ds es cs ss : List ℕ) : Type 0 where
  pub fit : Fitting (length ts) (length us) (length vs) (length ds) (length es) (length cs) (length ss)
  pub counts : (c : ℕ) → get_or cs c 0 ≡ 0
  pub sums : (c : ℕ) → get_or ss c 0 ≡ 0

-- by the ranked cuts of marks, both lists are those of the meaning
pub record CellsFilled (ts us vs ds es cs ss : List ℕ) : Type 0 where
  pub counts : (zs hs ys ks : List ℕ) → Ranked (cuts_to 65537 zs hs (length zs)) ds (length ds) → Ranked (cuts_to 257 ys ks (length ys)) es (length es)
      → cs ≡ cell_list (minute_axis ts zs hs) (temperature_axis us ys ks) one (length ts)
  pub sums : (zs hs ys ks : List ℕ) → Ranked (cuts_to 65537 zs hs (length zs)) ds (length ds) → Ranked (cuts_to 257 ys ks (length ys)) es (length es)
      → ss ≡ cell_list (minute_axis ts zs hs) (temperature_axis us ys ks) (value vs) (length ts)

-- lists that don't fit are left
pub record CellsTried (ts us vs ds es cs ss cs' ss' : List ℕ) : Type 0 where
  pub filled : Fitting (length ts) (length us) (length vs) (length ds) (length es) (length cs) (length ss) → CellsFilled ts us vs ds es cs' ss'
  pub left : ¬ Fitting (length ts) (length us) (length vs) (length ds) (length es) (length cs) (length ss) → (cs' ≡ cs) × (ss' ≡ ss)
