-- Each turn settles one number as marks; at the end nothing is to come.
use Rattle.search_states.specs.Upto.{marks_from, StatesAdded}
use Rattle.search_states.proofs.fill_states.Given as goal

abbrev pub invariant-loop-m : goal.invariant-loop-m
invariant-loop-m l = StatesAdded l.r l.initial.row l.row l.n (marks_from l.r l.m)
