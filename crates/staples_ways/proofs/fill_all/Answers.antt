-- The ways after one number more.
use Rattle.staples_ways.specs.WayLaws.{all_more}
use Rattle.staples_ways.proofs.fill_all.Goals as goal

pub loop-u-preserved : goal.loop-u-preserved
loop-u-preserved c = all_more c.requires.few c.loop-u.invariant c.fill_ways.ensures
