-- What the functions under the call ask and say. q is what is asked, d are the cuts of both directions. cs and ss are the lists of counts and of
-- value sums, bs is the list of boxes. fs and es hold the strips that minute windows begin with and those behind them, ls and hs those of temperature
-- windows. Where a function has no readings, what it says holds of all whose cells it has.
use Rattle.std.specs.Prelude.{ℕ, ◌*◌, ◌≤◌, ◌<◌, ◌≡◌, List, length, get_or}
use Rattle.meanings.specs.declared.boxes.Question.{Question}
use Rattle.meanings.specs.boxes.Boxes.{Axis, one, value, cuts_to, cell_list, box_list}
use Rattle.meanings.specs.boxes.Lent.{along_minutes, along_temperatures}
use Rattle.laws.specs.boxes.Accepted.{BoxesAccepted}
use Rattle.laws.specs.boxes.Windows.{first_strip, end_strip, Narrow}
use Rattle.boxes.specs.Cuts.{Ranked}
use Rattle.boxes.specs.declared.cells.Cuts.{Cuts}

-- the cells of r readings, by marks that the call takes
pub record CellsOf (cs ss : List ℕ) (A B : Axis) (vs : List ℕ) (r : ℕ) : Type 0 where
  pub counts : cs ≡ cell_list A B one r
  pub sums : ss ≡ cell_list A B (value vs) r
  pub narrow : Narrow A
  pub narrow_other : Narrow B

-- the strips of a direction's windows
pub record StripsOf (fs es : List ℕ) (n : ℕ) (A : Axis) : Type 0 where
  pub all : n ≡ length A.points
  pub firsts : n ≤ length fs
  pub ends : n ≤ length es
  pub first : (k : ℕ) → k < n → get_or fs k 0 ≡ first_strip A k
  pub end : (k : ℕ) → k < n → get_or es k 0 ≡ end_strip A k

-- boxes by the strips of both directions, in a list that was bs₀ and has room for them
pub record BoxesByStrips (fs es : List ℕ) (n : ℕ) (ls hs : List ℕ) (m : ℕ) (cs ss bs₀ bs : List ℕ) : Type 0 where
  pub boxes : length bs₀ ≡ 2 * n * m → (A B : Axis) (vs : List ℕ) (r : ℕ) → CellsOf cs ss A B vs r → StripsOf fs es n A → StripsOf ls hs m B
      → bs ≡ box_list A B vs r

-- a direction's marks with half widths and its ranked cuts
pub record CutsOf (zs hs : List ℕ) (s : ℕ) (ds : List ℕ) : Type 0 where
  pub even : length zs ≡ length hs
  pub few : length zs ≤ 32
  pub ranked : Ranked (cuts_to s zs hs (length zs)) ds (length ds)

-- no more marks than there are windows for
pub record FewMarks (q : Question) : Type 0 where
  pub minutes : length q.minute_marks.points.now ≤ 32
  pub temperatures : length q.temperature_marks.points.now ≤ 32

-- boxes by the cuts of both directions
pub record BoxesByCuts (q : Question) (d : Cuts) (cs ss bs₀ bs : List ℕ) : Type 0 where
  pub boxes : CutsOf q.minute_marks.points.now q.minute_marks.bandwidths.now 65537 d.minutes.now
      → CutsOf q.temperature_marks.points.now q.temperature_marks.bandwidths.now 257 d.temperatures.now
      → length bs₀ ≡ 2 * length q.minute_marks.points.now * length q.temperature_marks.points.now
      → CellsOf cs ss (along_minutes q) (along_temperatures q) q.readings.values.now (length q.readings.minutes.now)
      → bs ≡ box_list (along_minutes q) (along_temperatures q) q.readings.values.now (length q.readings.minutes.now)

-- lists that no check refuses
pub record ListsAccepted (q : Question) (bs cs ss : List ℕ) : Type 0 where
  pub accepted : BoxesAccepted (along_minutes q) (along_temperatures q) q.readings.values.now (length bs) (length cs) (length ss)

-- all three lists
pub record Filled (q : Question) (bs cs ss : List ℕ) : Type 0 where
  pub boxes : bs ≡ box_list (along_minutes q) (along_temperatures q) q.readings.values.now (length q.readings.minutes.now)
  pub counts : cs ≡ cell_list (along_minutes q) (along_temperatures q) one (length q.readings.minutes.now)
  pub sums : ss ≡ cell_list (along_minutes q) (along_temperatures q) (value q.readings.values.now) (length q.readings.minutes.now)
