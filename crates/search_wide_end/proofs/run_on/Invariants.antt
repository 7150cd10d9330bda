-- The layers run on in two blocks by turns.
use Prim.Native.Nat.{◌-◌}
use Rattle.search_row.specs.Words.{deck_in}
use Rattle.search_wide_end.specs.Ends.{Ran}
use Rattle.search_wide_end.proofs.run_on.Given as goal

abbrev pub invariant-loop-cells : goal.invariant-loop-cells
invariant-loop-cells l =
    Ran (deck_in l.row.words.now l.row.sizes) l.row.sizes.reordering l.lanes l.i (l.cells - l.i) l.at l.initial.store l.store l.table
