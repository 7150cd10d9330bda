-- Each turn costs one start state more, in row 0 and then in row 1.
use Prim.Native.Nat.{suc}
use Rattle.search_row.specs.Words.{deck_in, pos_in, with_cells}
use Rattle.search_stage.specs.Stage.{wide, cost_of, run_at, BothCosted}
use Rattle.search_stage.proofs.costs.Given as goal

abbrev pub invariant-loop-s : goal.invariant-loop-s
invariant-loop-s l =
    BothCosted (cost_of (deck_in l.rows.row0.now l.rows.sizes) l.rows.sizes.reordering l.rows.sizes.talls (pos_in l.rows.row0.now) l.i)
    (cost_of (deck_in l.rows.row1.now (with_cells l.rows.sizes l.rows.cells1)) l.rows.sizes.reordering l.rows.sizes.talls (pos_in l.rows.row1.now) l.i)
    l.i (wide l.rows.sizes.talls l.i l.rows.sizes.states) (run_at l.rows.sizes l.i l.lanes) (wide l.rows.sizes.talls (suc l.i) l.rows.sizes.states)
    (wide l.rows.sizes.talls (suc l.i) l.rows.sizes.poses) l.s l.initial.store l.store l.table
