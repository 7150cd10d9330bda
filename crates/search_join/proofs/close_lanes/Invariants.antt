-- Each turn closes the lanes of one state of row 0 more.
use Rattle.search_join.specs.Tables.{AllStates, Closed}
use Rattle.search_join.proofs.close_lanes.Given as goal

abbrev pub invariant-loop-s : goal.invariant-loop-s
invariant-loop-s l =
    Closed l.i l.low l.high (AllStates l.s l.ends) l.initial.store l.store
