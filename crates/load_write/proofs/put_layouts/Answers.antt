-- Each turn puts one layout more.
use native.Mathlib.Omega.{arith}
use Rattle.load_write.specs.Fields.{fields-none, fields-then, repeated-more}
use Rattle.load_write.specs.Cells.{layout_of, layout-room}
use Rattle.load_write.proofs.put_layouts.Goals as goal

pub loop-i-init : goal.loop-i-init
loop-i-init c = fields-none c.args.cursor c.args.output.now

pub put_layout-c-requires : goal.put_layout-c-requires
put_layout-c-requires c =
    layout-room c.args.layouts c.args.heights c.loop-i.i c.requires c.loop-i.invariant (omega arith)

pub loop-i-preserved : goal.loop-i-preserved
loop-i-preserved c =
    rw (repeated-more c.loop-i.i (layout_of c.args.heights)) (fields-then c.loop-i.invariant c.put_layout-c.ensures)
