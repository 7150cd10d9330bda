-- A state that is not there has no way to it.
use Prim.Native.Nat.{ℕ}
use mathlib.Core.Path.{sym, ap, ◌∙◌}
use native.Mathlib.Numerals.{add-one}
use Rattle.search_row.specs.Words.{deck_in, there_in}
use Rattle.search_buckets.specs.Next.{next-away}
use Rattle.search_lanes.specs.Store.{layer_in}
use Rattle.search_lanes.specs.Laws.{state-closed}
use Rattle.search_wide_layer.proofs.target_block.Goals as goal

pub returns-then-not-is_there : goal.returns-then-not-is_there
returns-then-not-is_there c =
    let g = c.requires.stepping.given in
    let t = sym c.is_there.ensures ∙ c.if-not-is_there.true in
    let u = ap (λ (j : ℕ). there_in c.args.row.sizes.cells c.args.row.sizes.reordering j c.args.q) (sym (add-one c.args.layer.cells)) ∙ t in
    record {
      filled = state-closed g.narrow g.grounded.few g.low c.fill.ensures
          (λ b l x y. next-away (deck_in c.args.row.words.now c.args.row.sizes) c.args.row.sizes.reordering (layer_in c.args.store.now c.args.layer.at l) c.args.layer.cells
          c.args.q b u);
      lent = c.requires.stepping.lent;
    }
