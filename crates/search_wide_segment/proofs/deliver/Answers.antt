use Prim.Native.Nat.{suc, ◌+◌, ◌*◌}
use mathlib.Core.Path.{sym, ap₂}
use lib.Dec.{eqb}
use mathlib.Core.Bool.{cond}
use native.Mathlib.Omega.{arith}
use Rattle.search_store.specs.Map.{state_block}
use Rattle.theory_tables.specs.Steps.{offset}
use Rattle.search_lanes.specs.Laws.{frame-join, said-below, said-above, filled_more}
use Rattle.search_wide_segment.proofs.deliver.Goals as goal

pub loop-q-preserved : goal.loop-q-preserved
loop-q-preserved c =
    let g = c.requires.to_tall in
    let l = c.loop-q in
    let w = c.deliver_state.ensures in
    let f = l.invariant.1 in (
      filled_more l.q g.narrow (omega arith) (omega (arith, g.all, g.coded.few)) l.invariant.0 w
          (λ b j x y.
          ap₂ (cond (eqb (c.args.layer.cells + offset c.args.row.sizes.reordering l.q) (c.args.tall + suc c.args.row.sizes.reordering)))
          (sym (said-below f (c.args.layer.at + l.q * state_block) b j (omega (arith, g.room.over, g.all, g.coded.few, c.requires.below)) (omega (arith, g.few))
          (omega (arith, g.narrow))))
          (sym (said-above f (c.args.costs + l.q * state_block) b j (omega arith)))),
      frame-join c.args.costs (c.args.costs + (l.q + 1) * state_block) f w.frame (omega arith) (omega arith) (omega arith) (omega arith),
    )
