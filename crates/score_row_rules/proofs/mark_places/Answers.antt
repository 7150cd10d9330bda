-- The marks of row 0, and then those of row 1.
use Prim.Native.Nat.{ℕ}
use mathlib.Core.Bool.{Bool}
use Rattle.score_order.specs.Words.{order_in, row_in_file}
use Rattle.score_cell_rules.specs.Marks.{added-both}
use Rattle.score_row_rules.specs.Tests.{out_in, out_any}
use Rattle.score_row_rules.proofs.mark_places.Goals as goal

pub returns : goal.returns
unfolding out_any
returns c =
    let s = c.args.stands.now in
    let f : ℕ → ℕ → Bool = λ row. out_in s row c.args.limit (order_in s row) (row_in_file s row) in
    added-both (f 0) (f 1) c.args.marks.now _ _ c.mark_row_places.ensures c.mark_row_places-2.ensures
