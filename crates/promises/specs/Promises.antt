-- The promises of all requests in one file. What is said of all inputs' answers is `Promises`: the three demands and what later requests asked for.
-- That each of their calls takes every input and ends is `EveryCallTaken`; of other public functions tests/public-calls sees that none asks
-- anything. Both together are `Demands`, and the theorem is `demands` of crates/demands_hold/proofs/Demands.antt.
use Rattle.promises.specs.Calls.{EveryInputTaken}
use Rattle.promises.specs.Crossing.{EveryCrossingTaken, Crossings}
use Rattle.promises.specs.Demands.{Demand1, Demand2, Demand3, OtherCalls, Preview, EveryCurve}
use Rattle.promises.specs.LineEndings.{LineEndings}
use Rattle.promises.specs.Runs.{EveryRunEnds, ProgramRuns}
use Rattle.promises.specs.Worked.{WorkedCases}
use Rattle.promises.specs.biweight.Biweights.{EveryBiweightTaken, Biweights}
use Rattle.promises.specs.boxes.InBoxes.{EveryBoxesTaken, InBoxes}
use Rattle.promises.specs.decisive.Decisive.{EveryDecisiveTaken, DecisiveReadings}
use Rattle.promises.specs.doubles.Biweight.{BiweightHadBack}
use Rattle.promises.specs.doubles.Doubles.{EveryDoublesTaken, DoublesHold}
use Rattle.promises.specs.doubles.Neighbours.{NeighboursHadBack}
use Rattle.promises.specs.doubles.Ranges.{RangesHadBack}
use Rattle.promises.specs.neighbours.ByNeighbours.{EveryNeighboursTaken, ByNeighbours}
use Rattle.promises.specs.pair.Pairs.{EveryPairTaken, Pairs}
use Rattle.promises.specs.range_reader.BothKinds.{EveryReaderTaken, BothKinds}
use Rattle.promises.specs.ranges.OverRanges.{EveryRangesTaken, OverRanges}
use Rattle.promises.specs.turn.Turns.{EveryTurnTaken, Turns}

-- what is said of all inputs' answers
pub record Promises : Type 0 where
  -- refusals, and the program's text
  pub demand_1 : Demand1
  -- accepted rows
  pub demand_2 : Demand2
  -- lists of steps
  pub demand_3 : Demand3
  pub other_calls : OtherCalls
  pub line_endings : LineEndings
  pub preview_holds : Preview
  pub every_curve : EveryCurve
  pub cases : WorkedCases
  -- the first mark at or below a limit
  pub crossings : Crossings
  -- the turn of a running record
  pub turns : Turns
  -- half widths by neighbours
  pub by_neighbours : ByNeighbours
  -- readings known as ranges, and the reader of sheets of both kinds
  pub over_ranges : OverRanges
  pub both_kinds : BothKinds
  -- the row under the biweight kernel
  pub biweights : Biweights
  -- weights and sums as doubles
  pub doubles : DoublesHold
  pub biweight_doubles : BiweightHadBack
  pub neighbours_doubles : NeighboursHadBack
  pub ranges_doubles : RangesHadBack
  -- two tanks set against each other
  pub pairs : Pairs
  -- minute and temperature together
  pub in_boxes : InBoxes
  -- the reading that decides
  pub decisive : DecisiveReadings

-- each call of the requests takes every input, ends, and leaves nothing for the caller to check first
pub record EveryCallTaken : Type 2 where
  pub every_input : EveryInputTaken
  -- the program on every reader and writer, and from what a reader has to what a writer gains
  pub every_run_ends : EveryRunEnds
  pub program_runs : ProgramRuns
  pub every_crossing : EveryCrossingTaken
  pub every_turn : EveryTurnTaken
  pub every_neighbours : EveryNeighboursTaken
  pub every_ranges : EveryRangesTaken
  pub every_reader : EveryReaderTaken
  pub every_biweight : EveryBiweightTaken
  pub every_doubles : EveryDoublesTaken
  pub every_pair : EveryPairTaken
  pub every_boxes : EveryBoxesTaken
  pub every_decisive : EveryDecisiveTaken

pub record Demands : Type 2 where
  pub taken : EveryCallTaken
  pub promises : Promises
