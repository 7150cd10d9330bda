-- The loop's invariant: the bytes so far stand from the place on, and the cursor after them.
use lib.ListN.{take}
use Rattle.text_write.specs.Put.{Wrote}
use Rattle.text_write.proofs.put_bytes.Given as goal

abbrev pub invariant-loop-b : goal.invariant-loop-b
invariant-loop-b l = Wrote (take l.b-index l.text) l.initial.output l.at l.output l.p
