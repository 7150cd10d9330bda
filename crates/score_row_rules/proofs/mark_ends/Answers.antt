-- The marks of row 0, and then those of row 1.
use Rattle.score_order.specs.Words.{order_in}
use Rattle.score_cell_rules.specs.Marks.{added-both}
use Rattle.score_row_rules.specs.Tests.{at_end_in, at_end_any}
use Rattle.score_row_rules.proofs.mark_ends.Goals as goal

pub returns : goal.returns
unfolding at_end_any
returns c =
    let r = c.requires in
    let s = c.args.stands.now in
    let f = at_end_in s c.args.sites in
    added-both (f (order_in s 0)) (f (order_in s 1)) c.args.marks.now _ _
    (rw r.row0.same at c.mark_row_ends.ensures) (rw r.row1.same at c.mark_row_ends-2.ensures)
