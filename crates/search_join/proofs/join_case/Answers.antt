-- The least over the states of row 1 and the lanes is at most every way, and where it is below B a way of it is found.
use mathlib.Core.Path.{sym}
use native.Mathlib.Omega.{arith}
use Rattle.search_join.specs.Laws.{next-is, next-none}
use Rattle.search_join.specs.CaseLaws.{case-dead, case-below}
use Rattle.search_join.proofs.join_case.Goals as goal

pub returns-then-not-live : goal.returns-then-not-live
returns-then-not-live c =
    case-dead c.args.join c.args.store.now c.args.case.q0 c.args.case.q1 c.args.case.pose c.requires.summed.all (c.requires.summed.dead c.if-not-live.true)

pub returns-in_err-best : goal.returns-in_err-best
returns-in_err-best c =
    rw c.from_residual.ensures
    (next-none c.args.join.starts c.args.join.lanes _ _ _ c.args.case.q0 c.args.case.q1 c.args.case.pose
    (case-below c.args.join c.args.store.now c.args.case.q0 c.args.case.q1 c.args.case.pose c.requires.summed.all _ (sym c.in_err-best.ensures)))

pub returns : goal.returns
returns c =
    let best = c.in_ok-best.ensures in
    let way = c.pointer_of-code.ensures in (
      best.0,
      next-is c.args.join.starts c.args.join.lanes _ _ _ c.args.case.q0 c.args.case.q1 c.args.case.pose _ (omega arith)
          (case-below c.args.join c.args.store.now c.args.case.q0 c.args.case.q1 c.args.case.pose c.requires.summed.all _ best.1.right)
          (λ h. way)
          (omega (arith, way.state₀, c.requires.table.states)),
    )
