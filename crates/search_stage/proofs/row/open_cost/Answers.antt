-- Stage 0 ends at the first tall cell, or at the row's end.
use native.Mathlib.Omega.{arith}
use Rattle.search_row.specs.Words.{deck_in, pos_in}
use Rattle.search_stage.specs.Rows.{open_tall, open_last}
use Rattle.search_stage.proofs.row.open_cost.Goals as goal

pub returns-then-row-gt0 : goal.returns-then-row-gt0
unfolding pos_in
returns-then-row-gt0 c =
    open_tall (deck_in c.args.row.words.now c.args.row.sizes) c.args.row.sizes.reordering c.args.row.sizes.talls (pos_in c.args.row.words.now) (omega (arith, c.if-row-gt0.true))
    c.tall_at-p.ensures c.open_to.ensures

pub returns : goal.returns
returns c =
    open_last (deck_in c.args.row.words.now c.args.row.sizes) c.args.row.sizes.reordering c.args.row.sizes.talls (pos_in c.args.row.words.now) c.args.row.sizes.states
    (omega (arith, c.if-row-gt0.false)) c.open_end.ensures
