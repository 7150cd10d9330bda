use native.Mathlib.Omega.{arith}
use Rattle.search_buckets.specs.Ends.{states-none, states-more}
use Rattle.search_lanes.specs.Store.{layer_in}
use Rattle.search_lanes.specs.Laws.{lowered_to, lowered_join}
use Rattle.search_row.specs.Words.{deck_in}
use Rattle.search_wide_end.proofs.least_states.Goals as goal

pub loop-q-init : goal.loop-q-init
loop-q-init c =
    lowered_to _ c.requires.least.low
    (λ l h. omega (arith, states-none (deck_in c.args.row.words.now c.args.row.sizes) c.args.row.sizes.reordering (layer_in c.args.store.now c.args.at l)))

pub loop-q-preserved : goal.loop-q-preserved
loop-q-preserved c =
    lowered_join c.loop-q.invariant c.least_state.ensures
    (λ j h. states-more (deck_in c.args.row.words.now c.args.row.sizes) c.args.row.sizes.reordering (layer_in c.args.store.now c.args.at j) c.loop-q.q)
