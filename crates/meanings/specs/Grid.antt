-- SPECIFICATION, "Presets and grid": the table of half widths and the filled marks.
use Rattle.std.specs.Prelude.{ℕ, zero, suc, ◌+◌, ◌*◌, List, [], ◌∷◌, ◌++◌}

-- the bandwidth presets, by index: the half widths of "the knob"
abbrev pub presets : List ℕ
presets = 30 ∷ 45 ∷ 60 ∷ 90 ∷ 120 ∷ 180 ∷ 240 ∷ 360 ∷ 480 ∷ 720 ∷ 1080 ∷ 1440 ∷ []

-- the first n filled marks: mark k is first + k × spacing
abbrev pub grid : ℕ → ℕ → ℕ → List ℕ
grid z₀ spacing zero = []
grid z₀ spacing (suc n) = grid z₀ spacing n ++ (z₀ + n * spacing) ∷ []
