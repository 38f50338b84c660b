-- SPECIFICATION, "Questions with a limit": the first mark that has a value of at most the limit, with the passes up to and with it.
-- ts and vs are minutes and values of the readings, zs and hs the marks and their half widths.
use Rattle.std.specs.Prelude.{ℕ, suc, ◌+◌, ◌-◌, ◌*◌, Bool, false, List, length, get_or, take, Option, None, Some}
use Rattle.meanings.specs.declared.limit.Located.{Located}
use Rattle.meanings.specs.declared.Limits.{Limits}
use Rattle.meanings.specs.Limits.{row_width}
use Rattle.meanings.specs.Lists.{lowest}
use Rattle.meanings.specs.Moves.{Move, moves}
use Rattle.meanings.specs.Reports.{Fault, Answer, given, refused, unless, first_of, curve_checks}
use Rattle.meanings.specs.Estimate.{estimate, right_of}
use Rattle.meanings.specs.Running.{fresh, passes}
use Rattle.meanings.specs.limit.Threshold.{at_or_below, low_enough}

-- the row of mark k is low enough
unfoldable pub low_at : List ℕ → List ℕ → List ℕ → List ℕ → ℕ → ℕ → Bool
low_at ts vs zs hs limit k = low_enough limit (estimate ts vs (get_or zs k 0) (get_or hs k 0))

-- the lowest such mark, if there is one
abbrev pub first_low : List ℕ → List ℕ → List ℕ → List ℕ → ℕ → Option ℕ
first_low ts vs zs hs limit = lowest (low_at ts vs zs hs limit) (length zs)

-- one step a mark, up to and with mark k; where there is none, of all marks
abbrev pub steps_to : List ℕ → List ℕ → Option ℕ → List Move
steps_to zs hs None = moves zs hs
steps_to zs hs (Some k) = moves (take (suc k) zs) (take (suc k) hs)

-- both, of accepted lists
abbrev pub located : List ℕ → List ℕ → List ℕ → List ℕ → ℕ → Located
located ts vs zs hs limit =
    let k = first_low ts vs zs hs limit in
    record { position = k; passes = passes ts vs fresh (steps_to zs hs k) }

-- the sweep's checks without those of a rows list
abbrev pub crossing_refusal : Limits → List ℕ → List ℕ → List ℕ → List ℕ → Option Fault
crossing_refusal L ts vs zs hs = first_of (curve_checks L ts vs zs hs false)

-- the whole call
unfoldable pub first_at_most : Limits → List ℕ → List ℕ → List ℕ → List ℕ → ℕ → Answer Located
first_at_most L ts vs zs hs limit = unless (crossing_refusal L ts vs zs hs) (located ts vs zs hs limit)

-- A second reading, by the rows of a sweep.

-- row k of a list of rows is low enough: of its five numbers the third is the weight and the fifth the value
unfoldable pub low_row : List ℕ → ℕ → ℕ → Bool
low_row rs limit k = at_or_below limit (get_or rs (row_width * k + 2) 0) (get_or rs (row_width * k + 4) 0)

-- the passes that the rows tell: left plus right of row k; where there is none, the sweep's
abbrev pub passes_by_rows : List ℕ → ℕ → Option ℕ → ℕ
passes_by_rows rs n None = n
passes_by_rows rs n (Some k) = get_or rs (row_width * k) 0 + get_or rs (row_width * k + 1) 0

-- what a sweep of m marks with these rows and n passes says of the limit
abbrev pub located_by_rows : List ℕ → ℕ → ℕ → ℕ → Located
located_by_rows rs m limit n =
    let k = lowest (low_row rs limit) m in
    record { position = k; passes = passes_by_rows rs n k }

abbrev pub answer_by_rows : List ℕ → ℕ → ℕ → Answer ℕ → Answer Located
answer_by_rows rs m limit (given n) = given (located_by_rows rs m limit n)
answer_by_rows rs m limit (refused e) = refused e

-- how far values can count: up to right of the answering mark; where there is none, of the last mark
abbrev pub reach : List ℕ → List ℕ → List ℕ → Option ℕ → ℕ
reach ts zs hs None = right_of ts (get_or zs (length zs - 1) 0) (get_or hs (length zs - 1) 0)
reach ts zs hs (Some k) = right_of ts (get_or zs k 0) (get_or hs k 0)
