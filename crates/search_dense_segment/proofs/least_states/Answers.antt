use mathlib.Core.Path.{sym}
use native.Mathlib.Omega.{arith}
use Rattle.search_buckets.specs.Ends.{states-none, states-more}
use Rattle.search_row.specs.Words.{deck_in}
use Rattle.search_dense_layer.specs.Thin.{thin_in}
use Rattle.search_dense_segment.proofs.least_states.Goals as goal

pub loop-q-init : goal.loop-q-init
loop-q-init c =
    sym (states-none (deck_in c.args.row.words.now c.args.row.sizes) c.args.row.sizes.reordering (thin_in c.args.store.now c.args.at))

pub loop-q-preserved : goal.loop-q-preserved
loop-q-preserved c =
    let l = c.loop-q in
    omega (
      arith,
      c.min-x.ensures,
      c.least_state.ensures,
      l.invariant,
      states-more (deck_in c.args.row.words.now c.args.row.sizes) c.args.row.sizes.reordering (thin_in c.args.store.now c.args.at) l.q,
    )
