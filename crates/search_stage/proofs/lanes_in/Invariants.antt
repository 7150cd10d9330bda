-- The lanes left out are dead.
use Rattle.search_stage.specs.Stage.{LanesRun}
use Rattle.search_stage.proofs.lanes_in.Given as goal

abbrev pub invariant-loop-lanes : goal.invariant-loop-lanes
invariant-loop-lanes l = LanesRun l.store l.i l.starts l.lanes l.width

abbrev pub decreases-loop-lanes : goal.decreases-loop-lanes
decreases-loop-lanes l = l.lanes
