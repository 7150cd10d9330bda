-- The layers run on in two blocks by turns; what is delivered are the costs as far as the layers have come.
use Prim.Native.Nat.{◌+◌, ◌-◌, ◌≤◌}
use Rattle.search_store.specs.Map.{max_kept}
use Rattle.search_row.specs.Words.{deck_in}
use Rattle.search_wide_segment.specs.Runs.{CostedRun}
use Rattle.search_wide_segment.proofs.run_to.Given as goal

abbrev pub invariant-loop-cells : goal.invariant-loop-cells
invariant-loop-cells l =
    (l.cells ≤ max_kept + 1) × CostedRun (deck_in l.row.words.now l.row.sizes) l.row.sizes.reordering l.first.lanes l.first.cells l.tall (l.cells - l.first.cells) l.at l.costs
    l.initial.store l.store l.table × (l.cells - l.first.cells ≤ l.tall + l.row.sizes.reordering - l.first.cells)
