use mathlib.Core.Path.{sym}
use native.Mathlib.Omega.{arith}
use Rattle.search_row.specs.Words.{deck_in}
use Rattle.search_wide_layer.specs.Laws.{beside-kept, next-kept}
use Rattle.search_lanes.specs.Laws.{filled_more}
use Rattle.search_wide_layer.proofs.step_layer.Goals as goal

pub loop-q-preserved : goal.loop-q-preserved
loop-q-preserved c =
    let g = c.requires.given in
    let l = c.loop-q in
    let s = l.invariant.0 in
    let kept = beside-kept c.requires.beside s.frame (omega arith) (omega arith) in (
      filled_more l.q g.narrow (omega (arith, g.grounded.few)) (omega (arith, g.grounded.all, g.grounded.coded.few)) s
          c.target_block.ensures.filled
          (λ b j x y. sym (next-kept (deck_in c.args.row.words.now c.args.row.sizes) c.args.row.sizes.reordering c.args.layer.cells l.q b j kept g.grounded.coded.few
          g.grounded.few
          (omega (arith, g.narrow)))),
      c.target_block.ensures.lent,
    )
