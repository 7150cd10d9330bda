use lib.ListN.{length-set}
use Rattle.search_row.specs.Words.{deck_in, pos_in, with_cells}
use Rattle.search_wide_buckets.specs.TableLaws.{lent_zeros}
use Rattle.search_stage.specs.Laws.{through_none, through_more, through_all, given-states, given-first}
use native.Mathlib.Omega.{arith}
use Rattle.search_stage.proofs.stages.Goals as goal
use Rattle.search_stage.proofs.stages.Goals.{After-stage}
use Rattle.search_stage.specs.Stage.{Through}
use Prim.Native.Nat.{◌+◌}
use lib.ListN.{set}

pub bounds-store-case_at : goal.bounds-store-case_at
bounds-store-case_at c =
    omega (arith, c.case_at.ensures, given-first c.requires 0 (omega arith))

pub loop-i-init : goal.loop-i-init
loop-i-init c = (
  through_none (deck_in c.args.rows.row0.now c.args.rows.sizes) (deck_in c.args.rows.row1.now (with_cells c.args.rows.sizes c.args.rows.cells1)) c.args.rows.sizes.reordering c.args.rows.sizes.talls
      (pos_in c.args.rows.row0.now) (pos_in c.args.rows.row1.now) _ c.case_at.ensures c.requires.low
      (omega (arith, c.case_at.ensures, given-first c.requires 0 (omega arith))),
  lent_zeros,
)

-- one stage more
more : (c : After-stage) → Through (deck_in c.args.rows.row0.now c.args.rows.sizes) (deck_in c.args.rows.row1.now (with_cells c.args.rows.sizes c.args.rows.cells1))
    c.args.rows.sizes.reordering c.args.rows.sizes.talls (pos_in c.args.rows.row0.now) (pos_in c.args.rows.row1.now) (c.loop-i.i + 1)
    (set c.args.store.now c.case_at.result 0) c.stage.new.store
more c =
    let n = given-states c.requires in
    let all = c.requires.given₀.grounded.all in
    through_more (deck_in c.args.rows.row0.now c.args.rows.sizes) (deck_in c.args.rows.row1.now (with_cells c.args.rows.sizes c.args.rows.cells1)) c.args.rows.sizes.reordering
    c.args.rows.sizes.talls (pos_in c.args.rows.row0.now) (pos_in c.args.rows.row1.now) (omega (arith, all, n.0)) (omega (arith, all, n.1)) n.2
    (omega (arith, n.3, c.loop-i-test.true)) c.loop-i.invariant.0 c.stage.ensures

pub loop-i-preserved : goal.loop-i-preserved
loop-i-preserved c = (more (goal.at-loop-i-preserved c).After-stage, c.stage.ensures.lent)

pub returns-2 : goal.returns-2
returns-2 c =
    through_all (deck_in c.args.rows.row0.now c.args.rows.sizes) (deck_in c.args.rows.row1.now (with_cells c.args.rows.sizes c.args.rows.cells1)) c.args.rows.sizes.reordering c.args.rows.sizes.talls
    (pos_in c.args.rows.row0.now) (pos_in c.args.rows.row1.now) (length-set c.args.store.now c.case_at.result 0) (more (goal.at-returns-2 c).After-stage) (omega arith)
