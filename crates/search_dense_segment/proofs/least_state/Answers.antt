-- Each return reads the tests on its way.
use mathlib.Core.Path.{◌≡◌, sym, ◌∙◌}
use mathlib.Core.Bool.{true}
use Rattle.search_row.specs.Words.{there_in}
use Rattle.search_dense_layer.specs.Thin.{thin_in}
use Rattle.search_dense_segment.specs.Laws.{state-away, state-tall, state-single}
use Rattle.search_dense_segment.proofs.least_state.Goals as goal
use Rattle.search_dense_segment.proofs.least_state.Goals.{After-last_at-k, Else-not-is_there}

-- past the first test the row has the cell
there : (c : Else-not-is_there) → (there_in c.args.row.sizes.cells c.args.row.sizes.reordering c.args.row.sizes.cells c.args.q ≡ true)
there c = sym c.is_there.ensures ∙ c.if-not-is_there.false

pub returns-then-not-is_there : goal.returns-then-not-is_there
returns-then-not-is_there c =
    sym (state-away c.args.row.words.now c.args.row.sizes.cells c.args.row.sizes.poses c.args.row.sizes.reordering 0 c.args.q (thin_in c.args.store.now c.args.at)
    (sym c.is_there.ensures ∙ c.if-not-is_there.true))

pub returns-then-row-k-eq1 : goal.returns-then-row-k-eq1
returns-then-row-k-eq1 c =
    let l = c.last_at-k in
    sym (state-tall c.args.row.words.now c.args.row.sizes.cells c.args.row.sizes.poses c.args.row.sizes.reordering l.result c.args.q (thin_in c.args.store.now c.args.at) l.ensures
    c.if-row-k-eq1.true)

pub returns : goal.returns
returns c =
    let l = c.last_at-k in
    c.least_poses.ensures
    ∙ sym (state-single c.args.row.words.now c.args.row.sizes.cells c.args.row.sizes.poses c.args.row.sizes.reordering l.result c.args.q (thin_in c.args.store.now c.args.at)
    l.ensures (there (goal.at-returns c).Else-not-is_there) c.if-row-k-eq1.false)
