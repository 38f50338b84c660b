-- The same of the tables and windows that the functions pass on. t are the tables, ws and os the windows of two directions, bs is a list of boxes.
use Rattle.std.specs.Prelude.{◌≡◌, ℕ, ◌*◌, ◌≤◌, List, length}
use Rattle.std.specs.List.{All}
use Rattle.meanings.specs.declared.boxes.Window.{Window}
use Rattle.meanings.specs.boxes.Lent.{firsts, ends}
use Rattle.boxes.specs.declared.sums.FullTables.{FullTables}
use Rattle.boxes.specs.Pairs.{table_row, table_boxes}

-- a window of at most 65 strips
abbrev pub WithinStrips : Window → Type 0
WithinStrips w = (w.first ≤ 65) × (w.end ≤ 65)

-- the row of one window with each of the other direction
abbrev pub row_of : FullTables → Window → List Window → List ℕ
row_of t w os = table_row t.counts.now t.sums.now w.first w.end (firsts os) (ends os) (length os)

abbrev pub boxes_of : FullTables → List Window → List Window → List ℕ
boxes_of t ws os = table_boxes t.counts.now t.sums.now (firsts ws) (ends ws) (length ws) (firsts os) (ends os) (length os)

-- a list for the row of one window
pub record RowReady (w : Window) (os : List Window) (bs : List ℕ) : Type 0 where
  pub strips : WithinStrips w
  pub others : All WithinStrips os
  pub room : length bs ≡ 2 * length os

-- a list for the rows of all windows
pub record RowsReady (ws os : List Window) (bs : List ℕ) : Type 0 where
  pub few : length ws ≤ 32
  pub other_few : length os ≤ 32
  pub strips : All WithinStrips ws
  pub others : All WithinStrips os
  pub room : length bs ≡ 2 * length ws * length os
