-- Each turn passes eight bytes among which there is no line feed, so the one sought is still the first from there.
-- In a word that has one, its first is the one sought; where fewer than eight bytes are left, the search goes on byte by byte.
use Rattle.std.proofs.Common.{arith}
use Rattle.sheet.proofs.WordSearch.{step_shortens, word_within, feed_in_rest}
use Rattle.sheet.proofs.lines.find_feed.Goals as goal

pub overflow_add-at : goal.overflow_add-at
overflow_add-at c = let l = word_within _ _ c.in-Some.ensures in record { fits = omega arith }

pub loop-word-smaller : goal.loop-word-smaller
loop-word-smaller c = step_shortens _ _ c.in-Some.ensures

pub returns : goal.returns
returns c = let o = c.in_ok-get.ensures.lookup.0 in feed_in_rest _ _ _ c.loop-word.invariant o.2 o.3 c.in_ok-place.ensures
