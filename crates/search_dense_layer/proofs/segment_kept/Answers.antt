use native.Mathlib.Omega.{arith}
use Rattle.search_row.specs.Words.{deck_in}
use Rattle.search_dense_layer.specs.KeptLaws.{kept-none, kept-next}
use Rattle.search_dense_layer.proofs.segment_kept.Goals as goal

pub loop-cells-init : goal.loop-cells-init
loop-cells-init c = kept-none (deck_in c.args.row.words.now c.args.row.sizes) c.args.row.sizes.reordering c.args.i c.requires.low

pub loop-cells-preserved : goal.loop-cells-preserved
loop-cells-preserved c =
    let g = c.requires in
    let l = c.loop-cells in
    kept-next (deck_in c.args.row.words.now c.args.row.sizes) c.args.row.sizes.reordering c.args.i g.some g.grounded.few g.grounded.coded.few
    (omega arith)
    (omega (arith, g.last))
    g.grounded.all c.kept_at-from.ensures l.invariant c.step.ensures
