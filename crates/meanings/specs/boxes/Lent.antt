-- What calls take, in the words of the meaning.
use Rattle.std.specs.Prelude.{ℕ, List, map}
use Rattle.meanings.specs.declared.boxes.Question.{Question}
use Rattle.meanings.specs.declared.boxes.Window.{Window}
use Rattle.meanings.specs.boxes.Boxes.{Axis, minute_axis, temperature_axis}

-- the two directions of what is asked
abbrev pub along_minutes : Question → Axis
along_minutes q = minute_axis q.readings.minutes.now q.minute_marks.points.now q.minute_marks.bandwidths.now

abbrev pub along_temperatures : Question → Axis
along_temperatures q = temperature_axis q.readings.temperatures.now q.temperature_marks.points.now q.temperature_marks.bandwidths.now

-- the strips that windows begin with, and those behind them
abbrev pub firsts : List Window → List ℕ
firsts ws = map (λ (w : Window). w.first) ws

abbrev pub ends : List Window → List ℕ
ends ws = map (λ (w : Window). w.end) ws
