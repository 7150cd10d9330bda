use Prim.Native.Nat.{ℕ, ◌+◌}
use mathlib.Core.Path.{sym, subst}
use mathlib.Core.List.{List}
use native.Mathlib.Omega.{arith}
use Rattle.search_join.specs.Sums.{Sums}
use Rattle.search_join.specs.SumLaws.{start-words, start_none, row-none, sums_added, sums_passed, sums_skip}
use Rattle.search_join.proofs.sums.sums_from.Goals as goal
use Rattle.search_join.proofs.sums.sums_from.Goals.{then-commons-s-lt-NONE, else-commons-s-lt-NONE}

pub returns-then-store-costs-eq0 : goal.returns-then-store-costs-eq0
returns-then-store-costs-eq0 c =
    sums_skip c.args.join c.args.store.now c.args.q0 c.args.a c.args.s c.requires.before
    (λ t l. start_none c.args.join.i c.args.store.now c.args.q0 c.args.a c.args.s t l _ c.cost_at-costs.ensures (omega (arith, c.if-store-costs-eq0.true)))

pub loop-t-preserved : goal.loop-t-preserved
loop-t-preserved c =
    let table = c.requires.given.table in
    let t = c.loop-t.t in
    let P : List ℕ → Type 0 = Sums c.args.join c.args.store.now c.args.q0 c.args.a c.args.s (t + 1) in
    elim c.if-commons-s-lt-NONE.branch [
      | then-commons-s-lt-NONE w ↦ subst P (sym w.sums-is)
          (sums_added c.args.join c.args.store.now c.args.q0 c.args.a c.args.s t c.loop-t.invariant table.states (omega arith) w.add_ways.ensures
          (λ l g. start-words c.args.join.i c.args.store.now c.args.q0 c.args.a c.args.s t l _ _ w.case_at-at.ensures c.cost_at-costs.ensures c.if-store-costs-eq0.false))
      | else-commons-s-lt-NONE w ↦ subst P (sym w.sums-is)
          (sums_passed c.args.join c.args.store.now c.args.q0 c.args.a c.args.s t c.loop-t.invariant (omega arith)
          (λ l g. row-none c.args.join c.args.q0 c.args.a c.args.s t l c.requires.common c.requires.start (omega arith) g (omega (arith, w.if-commons-s-lt-NONE.false))))
    ]
