use mathlib.Core.Path.{sym}
use native.Mathlib.Omega.{arith}
use Rattle.search_join.specs.Tables.{MetAt}
use Rattle.search_join.specs.Sums.{end_sum}
use Rattle.search_join.specs.Laws.{lowest-zero, best_more}
use Rattle.search_join.proofs.best_end.Goals as goal

pub loop-t-init : goal.loop-t-init
loop-t-init c = lowest-zero _

pub loop-t-preserved : goal.loop-t-preserved
loop-t-preserved c =
    let ends = end_sum c.args.join.lanes c.args.sums.now c.args.store.now c.args.q1 c.args.a in
    let better = c.better-best.ensures in
    best_more ends c.loop-t.t (MetAt ends c.args.join.starts) _ _ _ _ c.end_sum-sum.ensures
    (omega arith, sym c.end_sum-sum.ensures)
    (omega (arith, c.requires.given.table.states))
    c.loop-t.invariant
    better.lower
    better.kept
