use Rattle.std.proofs.Common.{arith, ◌-◌}
use Rattle.score_order.specs.Arrays.{placed-more}
use Rattle.score_row_rules.specs.Out.{none-placed}
use Rattle.score_row_rules.proofs.places_of.Goals as goal

pub loop-i-init : goal.loop-i-init
loop-i-init c = none-placed c.args.list.now

pub loop-i-preserved : goal.loop-i-preserved
loop-i-preserved c =
    placed-more c.args.list.now (c.loop-i.i - 1) c.loop-i.i (omega arith) (omega arith) c.loop-i.place (c.requires.low (c.loop-i.i - 1)) c.loop-i.invariant
