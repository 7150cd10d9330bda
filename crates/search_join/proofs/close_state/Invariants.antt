-- Each turn closes the lanes of one state of row 1 more.
use Rattle.search_join.specs.Tables.{StateWith, Closed}
use Rattle.search_join.proofs.close_state.Given as goal

abbrev pub invariant-loop-t : goal.invariant-loop-t
invariant-loop-t l =
    Closed l.i l.low l.high (StateWith l.q0 l.t) l.initial.store l.store
