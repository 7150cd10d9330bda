use Prim.Native.Nat.{ℕ, ◌+◌, ◌-◌, ◌≤◌, ◌<◌}
use native.Mathlib.Omega.{arith}
use mathlib.Core.Path.{◌≡◌}
use lib.ListN.{get_or}
use borrow.Author.Count.{below_more}
use Rattle.theory_tables.specs.Steps.{B}
use Rattle.search_stage.specs.Stage.{from_at}
use Rattle.search_stage.specs.Starts.{from-room}
use Rattle.search_stage.proofs.live.Goals as goal

pub overflow_add-at : goal.overflow_add-at
overflow_add-at c =
    omega (arith, c.case_from.ensures, from-room c.args.side c.args.i c.args.s c.loop-t.t c.requires.lanes.table c.requires.state c.loop-t-test.true)

pub common-requires : goal.common-requires
common-requires c =
    omega (arith, c.case_from.ensures, from-room c.args.side c.args.i c.args.s c.loop-t.t c.requires.lanes.table c.requires.state c.loop-t-test.true)

pub loop-t-preserved : goal.loop-t-preserved
loop-t-preserved c =
    let t = c.loop-t.t in
    let from = c.case_from in
    below_more (λ (u : ℕ). (l : ℕ) → c.args.low ≤ l → l < c.args.high → B ≤ get_or c.args.store.now (from_at c.args.side c.args.i c.args.s u + l) 0)
    t c.loop-t.invariant
    (λ l g h.
    let e : from.result + c.args.low + (l - c.args.low) ≡ from_at c.args.side c.args.i c.args.s t + l = omega (arith, from.ensures) in
    let w : B ≤ get_or c.args.store.now (from.result + c.args.low + (l - c.args.low)) 0 = omega (arith, c.common.ensures (l - c.args.low) (omega arith)) in
    rw e at w)
