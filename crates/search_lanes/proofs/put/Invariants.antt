-- Each turn writes one lane more.
use Rattle.search_lanes.specs.Lanes.{with_own}
use Rattle.search_lanes.specs.Store.{Written}
use Rattle.search_lanes.proofs.put.Given as goal

abbrev pub invariant-loop-l : goal.invariant-loop-l
invariant-loop-l l = Written (with_own l.own l.acc) l.at l.l l.initial.store l.store
