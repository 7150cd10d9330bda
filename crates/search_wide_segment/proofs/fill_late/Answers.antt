use Prim.Native.Nat.{suc, ◌+◌, ◌*◌}
use mathlib.Core.Path.{sym, ap}
use lib.Dec.{ltb}
use mathlib.Core.Bool.{cond}
use native.Mathlib.Omega.{arith}
use Rattle.search_store.specs.Map.{state_block}
use Rattle.theory_tables.specs.Steps.{B, offset}
use Rattle.search_lanes.specs.Laws.{frame-join, said-above, filled_more}
use Rattle.search_wide_segment.proofs.fill_late.Goals as goal

pub loop-q-preserved : goal.loop-q-preserved
loop-q-preserved c =
    let l = c.loop-q in
    let w = c.late_state.ensures in
    let f = l.invariant.1 in (
      filled_more l.q c.requires.narrow (omega arith) (omega (arith, c.requires.all, c.requires.coded.few)) l.invariant.0 w
          (λ b j x y. ap (cond (ltb (c.args.tall + suc c.args.row.sizes.reordering) (c.args.layer.cells + offset c.args.row.sizes.reordering l.q)) B)
          (sym (said-above f (c.args.costs + l.q * state_block) b j (omega arith)))),
      frame-join c.args.costs (c.args.costs + (l.q + 1) * state_block) f w.frame (omega arith) (omega arith) (omega arith) (omega arith),
    )
