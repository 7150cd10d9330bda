use Prim.Native.Nat.{suc, ◌+◌, ◌*◌}
use mathlib.Core.Path.{sym, ap₂}
use lib.Dec.{eqb}
use mathlib.Core.Bool.{cond}
use native.Mathlib.Omega.{arith}
use Rattle.search_store.specs.Map.{state_block}
use Rattle.theory_tables.specs.Steps.{offset}
use Rattle.search_lanes.specs.Laws.{frame-join, said-above, filled_more}
use Rattle.search_row.specs.Words.{deck_in}
use Rattle.search_wide_layer.specs.Laws.{beside-kept, next-kept}
use Rattle.search_wide_segment.proofs.last_layer.Goals as goal

pub loop-q-preserved : goal.loop-q-preserved
loop-q-preserved c =
    let g = c.requires.stepping.given in
    let l = c.loop-q in
    let w = c.last_state.ensures in
    let s = l.invariant.0 in
    let f = l.invariant.1 in
    let kept = beside-kept c.requires.stepping.beside s.frame (omega arith) (omega arith) in (
      filled_more l.q g.narrow (omega (arith, g.grounded.few)) (omega (arith, g.grounded.all, g.grounded.coded.few)) s w.filled
          (λ b j x y.
          ap₂ (cond (eqb (suc c.args.layer.cells + offset c.args.row.sizes.reordering l.q) (c.args.tall + suc c.args.row.sizes.reordering)))
          (sym (next-kept (deck_in c.args.row.words.now c.args.row.sizes) c.args.row.sizes.reordering c.args.layer.cells l.q b j kept g.grounded.coded.few g.grounded.few
          (omega (arith, g.narrow))))
          (sym (said-above f (c.args.costs + l.q * state_block) b j (omega arith)))),
      frame-join c.args.costs (c.args.costs + (l.q + 1) * state_block) f w.filled.frame (omega arith) (omega arith) (omega arith) (omega arith),
      w.lent,
    )
