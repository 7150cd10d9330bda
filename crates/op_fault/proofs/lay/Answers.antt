-- As many entries as fit are laid, one at a time.
use mathlib.Core.Path.{refl, ◌∙◌}
use native.Mathlib.Omega.{arith}
use Rattle.definition.specs.Outcome.{over}
use Rattle.op_fault.proofs.Laid.{laid, laid-more}
use Rattle.op_fault.proofs.lay.Goals as goal

pub loop-i-init : goal.loop-i-init
unfolding over
loop-i-init g c = refl

pub loop-i-preserved : goal.loop-i-preserved
loop-i-preserved g c = laid-more c.args.from.now c.args.to.now c.loop-i.invariant c.index-from-i.is (omega arith) (omega arith)

pub returns : goal.returns
returns g c =
    c.loop-i.invariant ∙ laid c.args.from.now c.args.to.now c.loop-i.i (omega arith)
