-- Each turn passes eight bytes among which there is no line feed, so the one sought is still the first from there.
-- In a word that has one, its first is the one sought; where fewer than eight bytes are left, the search goes on byte by byte.
use Prim.Native.Nat.{◌-◌}
use lib.ListN.{length}
use Rattle.sheet.proofs.WordSearch.{SearchedTo}
use Rattle.sheet.proofs.lines.find_feed.Given as goal

abbrev pub invariant-loop-word : goal.invariant-loop-word
invariant-loop-word l = SearchedTo l.sheet l.from l.at

abbrev pub decreases-loop-word : goal.decreases-loop-word
decreases-loop-word l = length l.sheet - l.at
