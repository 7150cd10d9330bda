-- Each turn goes through one stage more.
use Rattle.search_row.specs.Words.{deck_in, pos_in, with_cells}
use Rattle.search_wide_buckets.specs.Table.{TableLent}
use Rattle.search_stage.specs.Stage.{Through}
use Rattle.search_stage.proofs.stages.Given as goal

abbrev pub invariant-loop-i : goal.invariant-loop-i
invariant-loop-i l =
    Through (deck_in l.rows.row0.now l.rows.sizes) (deck_in l.rows.row1.now (with_cells l.rows.sizes l.rows.cells1)) l.rows.sizes.reordering l.rows.sizes.talls (pos_in l.rows.row0.now)
    (pos_in l.rows.row1.now) l.i l.initial.store l.store × TableLent l.table
