use Prim.Native.Nat.{◌+◌, ◌*◌}
use mathlib.Core.Path.{◌∙◌}
use native.Mathlib.Omega.{arith}
use borrow.Author.Count.{below_more}
use lib.ListN.{get_or}
use Rattle.search_store.specs.Map.{flags_from, max_lanes}
use Rattle.search_lanes.specs.Laws.{said-low}
use Rattle.search_join.specs.SumLaws.{start-said}
use Rattle.search_join.proofs.start_of.Goals as goal

pub overflow_add-store : goal.overflow_add-store
overflow_add-store c =
    let w = c.requires.given.table.low in
    let p = c.cost_at.result in
    omega (
      arith,
      w.word (c.case_at.result + c.args.lane),
      c.said.ensures,
      said-low w (get_or c.args.store.now (p + flags_from + c.args.a) 0) (p + c.args.a * max_lanes + c.args.lane),
    )

pub returns-then-store-case_at : goal.returns-then-store-case_at
returns-then-store-case_at c =
    let e =
    start-said c.args.join.i c.args.store.now c.args.q0 c.args.a c.loop-s.s c.args.t c.args.lane _ _ _ c.case_at.ensures c.cost_at.ensures
    c.said.ensures in
    (omega arith, omega arith)

pub loop-s-preserved : goal.loop-s-preserved
loop-s-preserved c =
    let e =
    start-said c.args.join.i c.args.store.now c.args.q0 c.args.a c.loop-s.s c.args.t c.args.lane _ _ _ c.case_at.ensures c.cost_at.ensures
    c.said.ensures in
    below_more _ _ c.loop-s.invariant (λ g. c.if-store-case_at.false (e ∙ g))
