-- Invariant: the cells below k have been tried.
use Rattle.score_cell_rules.specs.Marks.{Trying}
use Rattle.score_cell_rules.proofs.mark_each.Given as goal

abbrev pub invariant-loop-k : goal.invariant-loop-k
invariant-loop-k g l = Trying l.k (goal.F-post g l.breaks) l.initial.marks l.marks
