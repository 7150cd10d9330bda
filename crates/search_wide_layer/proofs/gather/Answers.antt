use mathlib.Core.Path.{refl, sym, ◌∙◌}
use native.Mathlib.Omega.{arith}
use Rattle.search_lanes.specs.Store.{layer_in}
use Rattle.search_row.specs.Words.{deck_in}
use Rattle.search_buckets.specs.Sources.{states-none, states-more}
use Rattle.search_wide_buckets.specs.TableLaws.{gathered_none, gathered-join}
use Rattle.search_wide_layer.proofs.gather.Goals as goal
use Rattle.search_wide_layer.proofs.gather.Goals.{then-from_source, else-from_source}

pub loop-p-init : goal.loop-p-init
loop-p-init c =
    record {
      gathered = gathered_none _ _ _ c.requires.lent.low
          (λ l v t i j h. omega (
            arith,
            states-none c.args.row.words.now (deck_in c.args.row.words.now c.args.row.sizes) c.args.row.sizes.reordering (layer_in c.args.store.now c.args.layer.at l)
                c.args.layer.cells c.args.q v t,
          ));
      unused = λ e. refl;
    }

pub loop-p-preserved : goal.loop-p-preserved
loop-p-preserved c =
    let w = c.loop-p.invariant in
    record {
      gathered = gathered-join w.gathered c.from_source.ensures.gathered
          (λ j v t h. states-more c.args.row.words.now (deck_in c.args.row.words.now c.args.row.sizes) c.args.row.sizes.reordering (layer_in c.args.store.now c.args.layer.at j)
          c.args.layer.cells c.args.q c.loop-p.p v t);
      unused = λ e.
          elim c.if-from_source.branch [
            | then-from_source b ↦ cc
            | else-from_source b ↦ c.from_source.ensures.unused b.if-from_source.false ∙ w.unused (sym b.used-is ∙ e)
          ];
    }
