-- What the functions over a whole line say. The values of a line are point_line and sample_line of the meanings.
use Rattle.std.specs.Prelude.{ℕ, ◌≤◌, Bool, false, nat_lt, List, [], ◌∷◌, Option, Some, None, IsSome, Result, Ok, Err}
use Rattle.meanings.specs.declared.Mark.{Mark}
use Rattle.meanings.specs.declared.Refusal.{Refusal}
use Rattle.meanings.specs.Sheet.{EvaluationPoint, Injection}
use Rattle.sheet.specs.declared.values.SampleLine.{SampleLine}
use Rattle.sheet.specs.declared.values.Progress.{Progress}

abbrev pub point_values : Option Mark → Option EvaluationPoint
point_values (Some m) = Some (record { point = m.point; bandwidth = m.bandwidth })
point_values None = None

abbrev pub sample_values : Option SampleLine → Option Injection
sample_values (Some j) = Some (record { minute = j.minute; injection = j.injection; value = j.value })
sample_values None = None

-- a minute against that of the line before
abbrev pub early : ℕ → Option ℕ → Bool
early m None = false
early m (Some b) = nat_lt m b

-- of the lines before, the minute of the last one, which alone decides whether a minute is early
abbrev pub minute_before : Option ℕ → List ℕ
minute_before None = []
minute_before (Some m) = m ∷ []

-- after a reading line there is a line before, and no more readings than there may be
abbrev pub stored_within : Result Progress Refusal → Type 0
stored_within (Ok w) = (w.count ≤ 1024) × IsSome w.last
stored_within (Err r) = Unit {0}
