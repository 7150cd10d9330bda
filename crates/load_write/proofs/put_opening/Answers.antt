-- The lead, and then each turn puts one number more.
use Rattle.definition.specs.Load.{listed}
use Rattle.load_write.specs.Openings.{number-room, number_wrote}
use Rattle.load_write.proofs.put_opening.Goals as goal

pub loop-n-init : goal.loop-n-init
unfolding listed
loop-n-init c = c.put_byte-p.ensures

pub put_listed-p-requires : goal.put_listed-p-requires
put_listed-p-requires c =
    number-room c.args.opening c.loop-n.n-index c.loop-n-test.true c.loop-n.invariant c.requires

pub loop-n-preserved : goal.loop-n-preserved
loop-n-preserved c =
    number_wrote c.args.opening c.loop-n.n-index c.loop-n-test.true c.loop-n.invariant c.put_listed-p.ensures
