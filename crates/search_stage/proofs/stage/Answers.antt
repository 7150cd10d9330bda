-- The costs of both rows in the lanes that a case goes by, joined with the table before; then the lanes beyond the poses are closed.
use Prim.Native.Nat.{◌+◌, ◌≤◌}
use mathlib.Core.Path.{refl}
use Rattle.search_store.specs.Map.{max_lanes}
use Rattle.search_row.specs.Words.{deck_in, pos_in, with_cells}
use Rattle.search_stage.specs.Laws.{wide-lanes, stage-made, given-states, given-wide, given-table}
use native.Mathlib.Omega.{arith}
use Rattle.search_stage.proofs.stage.Goals as goal
use Rattle.search_stage.proofs.stage.Goals.{After-lanes_in-lanes}

pub lanes_in-lanes-requires : goal.lanes_in-lanes-requires
lanes_in-lanes-requires c =
    let g = c.requires.given in
    let y = wide-lanes c.args.rows.sizes.talls c.args.i c.args.rows.sizes.poses (given-states g).2 in
    rw c.wide_of-starts.ensures
    (given-table g c.args.i c.lanes_of.result _ c.requires.stage (omega (arith, c.lanes_of.ensures, y.1)) refl g.low)

-- no more lanes are run than a row has words
run : (c : After-lanes_in-lanes) → c.lanes_in-lanes.result ≤ max_lanes
run c =
    let y = wide-lanes c.args.rows.sizes.talls c.args.i c.args.rows.sizes.poses (given-states c.requires.given).2 in
    omega (arith, c.lanes_in-lanes.ensures.most, c.lanes_of.ensures, y.1)

pub costs-requires : goal.costs-requires
costs-requires c =
    record { stage = c.requires; narrow = run (goal.at-costs-requires c).After-lanes_in-lanes }

pub join_stage-requires : goal.join_stage-requires
join_stage-requires c =
    let g = c.requires.given in
    let x = given-wide g (c.args.i + 1) in
    let p = c.costs.ensures in
    record {
      table = rw c.wide_of-starts.ensures (given-table g c.args.i _ _ c.requires.stage (run (goal.at-join_stage-requires c).After-lanes_in-lanes) p.long p.low);
      pages = omega (arith, c.wide_of-ends.ensures, x.2, p.long);
      last = omega (arith, c.wide_of-ends.ensures, x.0);
      offered = omega (arith, c.wide_of-last.ensures, x.1);
    }

pub close_lanes-requires : goal.close_lanes-requires
close_lanes-requires c =
    let g = c.requires.given in
    let x = given-wide g (c.args.i + 1) in
    let y = wide-lanes c.args.rows.sizes.talls (c.args.i + 1) c.args.rows.sizes.poses (given-states g).2 in
    let p = c.costs.ensures in
    let j = c.join_stage.ensures in
    let ends = c.wide_of-ends.ensures in
    let last = c.wide_of-last.ensures in
    let width = c.lanes_of-width.ensures in
    record {
      fits = j.low;
      long = omega (arith, ends, x.2, j.long, p.long);
      table = omega (arith, c.requires.stage, (given-states g).3);
      states = omega (arith, ends, x.0);
      few = omega (arith, ends, x.0);
      order = omega (arith, last, width, y.0);
      narrow = omega (arith, width, y.1);
    }

pub returns : goal.returns
returns c =
    let g = c.requires.given in
    let n = given-states g in
    let all = g.given₀.grounded.all in
    stage-made (deck_in c.args.rows.row0.now c.args.rows.sizes) (deck_in c.args.rows.row1.now (with_cells c.args.rows.sizes c.args.rows.cells1)) c.args.rows.sizes.reordering c.args.rows.sizes.talls
    (pos_in c.args.rows.row0.now) (pos_in c.args.rows.row1.now)
    (omega (arith, all, n.0)) (omega (arith, all, n.1)) n.2 c.args.i c.args.rows.sizes.states _ _ _ _ _ _
    c.wide_of-starts.ensures c.lanes_of.ensures c.wide_of-ends.ensures
    c.wide_of-last.ensures c.lanes_of-width.ensures
    all c.requires.stage n.3 c.lanes_in-lanes.ensures c.costs.ensures
    c.join_stage.ensures c.close_lanes.ensures
