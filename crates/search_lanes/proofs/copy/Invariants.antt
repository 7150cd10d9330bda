-- Each turn copies one word more.
use Rattle.search_lanes.specs.Lanes.{words_from}
use Rattle.search_lanes.specs.Store.{Written}
use Rattle.search_lanes.proofs.copy.Given as goal

abbrev pub invariant-loop-k : goal.invariant-loop-k
invariant-loop-k l = Written (words_from l.initial.store l.from) l.at l.k l.initial.store l.store
