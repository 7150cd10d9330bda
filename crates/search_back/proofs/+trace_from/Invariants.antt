-- The measure is the stage.
use Rattle.search_back.proofs.+trace_from.Given as goal

abbrev pub decreases-trace_from : goal.decreases-trace_from
decreases-trace_from l = l.at.stage
