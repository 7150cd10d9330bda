use Prim.Native.Nat.{suc, ◌<◌}
use mathlib.Core.Path.{◌∙◌}
use native.Mathlib.Omega.{arith}
use Rattle.search_stage.specs.Stage.{wide}
use Rattle.search_stage.specs.Starts.{both-more}
use Rattle.search_stage.specs.Laws.{given-states, given-wide, given-table}
use Rattle.search_stage.proofs.costs.Goals as goal

pub cost_start-requires : goal.cost_start-requires
cost_start-requires c =
    let g = c.requires.stage.given in
    let v = c.loop-s.invariant in
    record {
      lent = v.lent;
      given = g.given₀;
      cases = given-table g c.args.i c.args.lanes _ c.requires.stage.stage c.requires.narrow v.long v.low;
      one = omega arith;
      stage = c.requires.stage.stage;
      state = omega (arith, c.wide_of-starts.ensures);
    }

pub cost_start-requires-in-loop-s : goal.cost_start-requires-in-loop-s
cost_start-requires-in-loop-s c =
    let g = c.requires.stage.given in
    let v = c.loop-s.invariant in
    let o = c.cost_start.ensures in
    let h : c.loop-s.s < wide c.args.rows.sizes.talls c.args.i c.args.rows.sizes.states =
    omega (arith, c.loop-s-test.true, c.wide_of-starts.ensures) in
    rw c.with_cells.ensures record {
      lent = o.lent;
      given = g.given₁;
      cases = given-table g c.args.i c.args.lanes _ c.requires.stage.stage c.requires.narrow (o.long ∙ v.long) o.low;
      one = omega arith;
      stage = c.requires.stage.stage;
      state = h;
    }

pub loop-s-preserved : goal.loop-s-preserved
loop-s-preserved c =
    let g = c.requires.stage.given in
    let w = given-wide g c.args.i in
    let x = given-wide g (suc c.args.i) in
    let l = c.loop-s in
    let one = rw c.with_cells.ensures at c.cost_start-in-loop-s.ensures in
    both-more _ _ _ _ _ w.0 (omega (arith, w.1)) x.0 (omega (arith, x.1)) (omega (arith, c.requires.stage.stage, (given-states g).3)) _ _ l.s
    (omega (arith, c.loop-s-test.true, c.wide_of-starts.ensures)) l.invariant c.cost_start.ensures one
