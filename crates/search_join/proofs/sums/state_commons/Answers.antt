use native.Mathlib.Omega.{arith}
use Rattle.search_join.specs.SumLaws.{commons_set, case-word}
use Rattle.search_join.proofs.sums.state_commons.Goals as goal

pub loop-t-preserved : goal.loop-t-preserved
loop-t-preserved c =
    let t = c.loop-t.t in
    commons_set c.args.join c.args.s t _ c.loop-t.invariant c.requires.given.table.states c.requires.start (omega arith)
    (λ l h. case-word c.args.store.now c.args.join.i c.args.s t l _ c.case_at.ensures (c.common.ensures l h))
