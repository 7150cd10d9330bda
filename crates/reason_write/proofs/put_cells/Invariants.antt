-- The loop's invariant: the cells so far stand from the place on, and the cursor after them.
use lib.ListN.{take}
use Rattle.definition.specs.Reasons.{cells_named}
use Rattle.text_write.specs.Put.{Wrote}
use Rattle.reason_write.proofs.put_cells.Given as goal

abbrev pub invariant-loop-i : goal.invariant-loop-i
invariant-loop-i l = Wrote (cells_named (take l.i l.cells)) l.initial.output l.at l.output l.p
