-- SPECIFICATION, "Questions with a limit": when a row is low enough. One test for all such questions.
use Rattle.std.specs.Prelude.{ℕ, Bool, ◌&&◌, ltb, leb}
use Rattle.meanings.specs.declared.Estimate.{Estimate}

-- the value is present, the weight being above 0, and at or below the limit
abbrev pub at_or_below : ℕ → ℕ → ℕ → Bool
at_or_below limit weight value = ltb 0 weight && leb value limit

-- the same of a row
abbrev pub low_enough : ℕ → Estimate → Bool
low_enough limit e = at_or_below limit e.weight e.value
