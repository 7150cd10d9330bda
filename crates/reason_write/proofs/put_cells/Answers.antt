-- Each turn puts one cell more.
use Rattle.reason_write.specs.Sentences.{cells-none, next-room, next_wrote}
use Rattle.reason_write.proofs.put_cells.Goals as goal

pub loop-i-init : goal.loop-i-init
loop-i-init c = cells-none c.args.output.now c.args.at

pub put_next-p-requires : goal.put_next-p-requires
put_next-p-requires c = next-room c.args.cells.now c.requires c.loop-i.i c.loop-i-test.true c.loop-i.invariant

pub loop-i-preserved : goal.loop-i-preserved
loop-i-preserved c = next_wrote c.args.cells.now c.requires c.loop-i.i c.loop-i-test.true c.loop-i.invariant c.put_next-p.ensures
