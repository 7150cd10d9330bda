use Prim.Native.Nat.{◌+◌, ◌-◌}
use mathlib.Core.Path.{◌≡◌, ◌∙◌}
use native.Mathlib.Omega.{arith}
use Rattle.search_store.specs.Map.{layer_block}
use Rattle.search_row.specs.Words.{deck_in}
use Rattle.search_wide_segment.specs.Runs.{Outside}
use Rattle.search_wide_segment.specs.Laws.{given-small, costed-start, costed-step, costed-from, outside-join, outside-costs}
use Rattle.search_wide_segment.proofs.run_to.Goals as goal

pub loop-cells-init : goal.loop-cells-init
loop-cells-init c =
    let g = c.requires.segment.given in
    let none : c.args.first.cells - c.args.first.cells ≡ 0 = omega arith in (
      omega (arith, g.early),
      rw none (costed-start (deck_in c.args.row.words.now c.args.row.sizes) c.args.row.sizes.reordering c.args.first.lanes c.args.first.cells c.args.tall
          c.args.costs c.args.row.sizes.states (given-small g) g.grounded.all c.requires.segment.room.over c.requires.segment.lent
          c.fill_late.ensures (rw c.requires.segment.begins at c.deliver.ensures)),
      omega arith,
    )

pub loop-cells-preserved : goal.loop-cells-preserved
loop-cells-preserved c =
    let g = c.requires.segment.given in
    let p = c.requires.segment.room in
    let l = c.loop-cells in
    let i = c.args.first.cells in
    let e : l.cells ≡ i + (l.cells - i) = omega arith in
    let f : l.cells + 1 ≡ i + ((l.cells - i) + 1) = omega arith in
    let d : l.cells + 1 - i ≡ (l.cells - i) + 1 = omega arith in (
      omega (arith, g.grounded.coded.reorder),
      rw d (costed-step (given-small g) g.grounded.all p.over l.invariant.1 (rw e at c.step_layer.ensures)
          (rw f at c.deliver-in-loop-cells.ensures)),
      omega arith,
    )

pub returns : goal.returns
returns c =
    let l = c.loop-cells in
    let p = c.requires.segment.room.over in
    let e : l.cells - c.args.first.cells ≡ c.args.tall + c.args.row.sizes.reordering - c.args.first.cells = omega (arith, l.invariant.2) in
    let o : Outside c.args.costs layer_block c.args.store.now c.deliver.new.store =
    outside-join (outside-costs c.fill_late.ensures.frame (omega arith) (omega arith))
    (outside-costs c.deliver.ensures.frame (omega arith) (omega arith)) in
    rw e at (costed-from (given-small c.requires.segment.given)
    (λ k h. c.deliver.ensures.frame.low k (omega arith) ∙ c.fill_late.ensures.frame.low k (omega arith)) o l.invariant.1)
