-- Each turn copies one row more; the state that it comes from is as it was.
use Rattle.search_lanes.specs.Store.{said_in, RowsSaid}
use Rattle.search_lanes.proofs.copy_rows.Given as goal

abbrev pub invariant-loop-a : goal.invariant-loop-a
invariant-loop-a l = RowsSaid (said_in l.initial.store l.from) l.at l.a l.lanes l.initial.store l.store
