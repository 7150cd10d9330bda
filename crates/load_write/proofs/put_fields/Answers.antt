-- Each turn draws one field more, and puts it.
use native.Mathlib.Omega.{arith}
use Rattle.load_write.specs.Fields.{fields-none, next-room, next_wrote}
use Rattle.load_write.proofs.put_fields.Goals as goal

pub loop-i-init : goal.loop-i-init
loop-i-init c = fields-none c.args.cursor c.args.output.now

pub put_listed-at-requires : goal.put_listed-at-requires
put_listed-at-requires c =
    next-room c.loop-i.i c.requires.form c.loop-i.invariant _ c.requires.room (omega arith) c.field-n.ensures

pub loop-i-preserved : goal.loop-i-preserved
loop-i-preserved c =
    next_wrote c.loop-i.i c.requires.form c.loop-i.invariant _ c.next-generator.ensures c.field-n.ensures
    c.put_listed-at.ensures
