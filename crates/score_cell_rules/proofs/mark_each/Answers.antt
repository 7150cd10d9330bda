use Rattle.std.proofs.Common.{arith}
use Rattle.score_cell_rules.specs.Marks.{trying-more}
use Rattle.score_cell_rules.proofs.mark_each.Goals as goal

pub loop-k-preserved : goal.loop-k-preserved
loop-k-preserved g c = trying-more c.loop-k.invariant (omega arith) _ c.breaks.ensures

pub returns : goal.returns
returns g c =
    let i = c.loop-k.invariant in
    record { long = i.long; each = λ k h. i.each k (omega arith) }
