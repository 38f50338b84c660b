-- The lowest position where an edge falls: at each turn none below i has one.
-- So the first that is found is the lowest, and at the end there is none.
use Rattle.checks.proofs.SweepSearches.{none_back_yet, edge_back_found, none_back_goes_on, none_back}
use Rattle.checks.proofs.sweep.first_edge_decrease.Goals as goal

pub loop-i-init : goal.loop-i-init
loop-i-init c = search none_back_yet

pub loop-i-preserved : goal.loop-i-preserved
loop-i-preserved c = none_back_goes_on (search) c.edge_below.ensures c.if-edge_below.false

pub returns-then-edge_below : goal.returns-then-edge_below
returns-then-edge_below c =
    edge_back_found {zs = c.args.marks.points.now} {hs = c.args.marks.bandwidths.now} (search) c.edge_below.ensures (search) c.if-edge_below.true

pub returns : goal.returns
returns c = search none_back
