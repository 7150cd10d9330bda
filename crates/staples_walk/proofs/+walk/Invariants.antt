-- Each step places one cell; the measure is how many are still to come.
use Rattle.staples_table.specs.Blocks.{to_come}
use Rattle.staples_walk.proofs.+walk.Given as goal

abbrev pub decreases-walk : goal.decreases-walk
decreases-walk l = to_come l.counts l.here.placed0 l.here.placed1
