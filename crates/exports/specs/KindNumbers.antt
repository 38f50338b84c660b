-- The counts of a sheet of either kind as numbers of a lent list.
use Rattle.std.specs.Prelude.{ℕ, List, [], ◌∷◌}
use Rattle.meanings.specs.declared.ranges.RangeCounts.{RangeCounts}
use Rattle.meanings.specs.declared.ranges.Kind.{Kind}
use Rattle.meanings.specs.declared.ranges.Kind.TheVariants.{Plain, Ranges}

-- a kind: 0 plain, 1 with ranges
abbrev pub kind_number : Kind → ℕ
kind_number Plain = 0
kind_number Ranges = 1

-- kept readings, marks, kind
abbrev pub range_count_numbers : RangeCounts → List ℕ
range_count_numbers c = c.samples ∷ c.points ∷ kind_number c.kind ∷ []
