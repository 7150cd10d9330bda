-- Each turn settles one digit; the marks after m are still to come.
use Rattle.std.proofs.Common.{◌+◌, ◌++◌}
use Rattle.search_states.specs.Upto.{digits_from, marks_from, StatesAdded}
use Rattle.search_states.proofs.add_marks.Given as goal

abbrev pub invariant-loop-d : goal.invariant-loop-d
invariant-loop-d l = StatesAdded l.r l.initial.row l.row l.n (digits_from l.r l.m l.d ++ marks_from l.r (l.m + 1))
