-- Invariant: the neighbours in what is left of the order are still to be judged.
use Rattle.std.proofs.Common.{◌≡◌}
use Rattle.std.specs.Slice.Iter.{windows_size, windows_rest}
use Rattle.score_row_rules.specs.Near.{Judging}
use Rattle.score_row_rules.proofs.mark_row_gaps.Given as goal

abbrev pub invariant-loop-pair : goal.invariant-loop-pair
invariant-loop-pair l =
    (windows_size l.pair-iterator ≡ 2) × Judging l.stands l.order (windows_rest l.pair-iterator) l.initial.marks l.marks
