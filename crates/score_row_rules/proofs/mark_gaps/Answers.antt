-- The marks of row 0, and then those of row 1.
use Rattle.score_order.specs.Words.{order_in}
use Rattle.score_cell_rules.specs.Marks.{added-both}
use Rattle.score_row_rules.specs.Tests.{near_in, near_any}
use Rattle.score_row_rules.proofs.mark_gaps.Goals as goal

pub returns : goal.returns
unfolding near_any
returns c =
    let r = c.requires in
    let s = c.args.stands.now in
    added-both (near_in s (order_in s 0)) (near_in s (order_in s 1)) c.args.marks.now _ _
    (rw r.row0.same at c.mark_row_gaps.ensures) (rw r.row1.same at c.mark_row_gaps-2.ensures)
