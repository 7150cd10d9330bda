-- Each turn fills one row more.
use Rattle.search_lanes.specs.Lanes.{always_rows}
use Rattle.search_lanes.specs.Store.{WrittenRows}
use Rattle.search_lanes.proofs.fill_rows.Given as goal

abbrev pub invariant-loop-a : goal.invariant-loop-a
invariant-loop-a l = WrittenRows (always_rows l.x) l.at l.a l.lanes l.initial.store l.store
