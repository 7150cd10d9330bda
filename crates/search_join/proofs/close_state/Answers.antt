use Rattle.search_join.specs.Closing.{closed-one, closed-more}
use native.Mathlib.Omega.{arith}
use Rattle.search_join.proofs.close_state.Goals as goal

pub loop-t-preserved : goal.loop-t-preserved
loop-t-preserved c =
    let l = c.loop-t in
    let one = closed-one c.args.i c.args.low c.args.high c.args.q0 l.t _ (omega arith) (omega arith) (omega arith) (omega arith) (omega arith)
    c.case_at.ensures c.fill.ensures in
    closed-more c.args.i c.args.low c.args.high c.args.q0 l.t (omega arith) (omega arith) (omega arith) (omega arith) l.invariant one
