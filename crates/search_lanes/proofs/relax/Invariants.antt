-- Each turn lowers one lane more.
use Rattle.search_lanes.specs.Lanes.{Lowered, charged}
use Rattle.search_lanes.proofs.relax.Given as goal

abbrev pub invariant-loop-l : goal.invariant-loop-l
invariant-loop-l l = Lowered (charged l.row l.at l.charge) l.l l.initial.acc l.acc
