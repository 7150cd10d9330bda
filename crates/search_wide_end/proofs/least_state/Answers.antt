-- A state whose cell cannot be the last lowers nothing.
use Prim.Native.Nat.{ℕ}
use mathlib.Core.Path.{sym, ap, ◌∙◌}
use native.Mathlib.Omega.{arith}
use Rattle.search_buckets.specs.Ends.{least_poses, state_in_lem, state-out}
use Rattle.search_lanes.specs.Store.{layer_in}
use Rattle.search_lanes.specs.Laws.{lowered_to, lowered_ext}
use Rattle.search_row.specs.Words.{back_in, deck_in}
use Rattle.search_wide_end.proofs.least_state.Goals as goal

pub returns-then-not-ends_with : goal.returns-then-not-ends_with
returns-then-not-ends_with c =
    lowered_to _ c.requires.layer.least.low
    (λ l h. omega (
      arith,
      state-out (deck_in c.args.row.words.now c.args.row.sizes) c.args.row.sizes.reordering (layer_in c.args.store.now c.args.at l) c.args.q
          (sym c.ends_with.ensures ∙ c.if-not-ends_with.true),
    ))

pub returns : goal.returns
returns c =
    lowered_ext c.least_poses.ensures
    (λ l h.
    state_in_lem (deck_in c.args.row.words.now c.args.row.sizes) c.args.row.sizes.reordering (layer_in c.args.store.now c.args.at l) c.args.q (sym c.ends_with.ensures ∙ c.if-not-ends_with.false)
    ∙ ap (λ (j : ℕ). least_poses (back_in c.args.row.words.now j) (layer_in c.args.store.now c.args.at l) c.args.q c.args.row.sizes.poses)
    (sym c.last_at-k.ensures))
