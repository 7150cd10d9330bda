use Prim.Native.Nat.{◌+◌, ◌-◌}
use mathlib.Core.Path.{◌≡◌, refl}
use native.Mathlib.Omega.{arith}
use Rattle.search_lanes.specs.Laws.{frame-refl}
use Rattle.search_row.specs.Words.{deck_in}
use Rattle.search_wide_segment.specs.Laws.{given-small, run_none}
use Rattle.search_wide_end.specs.Laws.{ran_more}
use Rattle.search_wide_end.proofs.run_on.Goals as goal

pub loop-cells-init : goal.loop-cells-init
loop-cells-init c =
    let none : c.args.i - c.args.i ≡ 0 = omega arith in
    rw none (record {
      running = run_none (deck_in c.args.row.words.now c.args.row.sizes) c.args.row.sizes.reordering c.args.lanes c.args.i (given-small c.requires.given) (λ j h. refl);
      frame = frame-refl _ _ _;
      low = c.requires.given.low;
      lent = c.requires.lent;
    })

pub loop-cells-preserved : goal.loop-cells-preserved
loop-cells-preserved c =
    let l = c.loop-cells in
    let e : l.cells ≡ c.args.i + (l.cells - c.args.i) = omega arith in
    let d : l.cells + 1 - c.args.i ≡ (l.cells - c.args.i) + 1 = omega arith in
    rw d (ran_more c.requires.given.grounded.all l.invariant (rw e at c.step_layer.ensures))
