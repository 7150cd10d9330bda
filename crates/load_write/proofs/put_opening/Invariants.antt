-- The loop's invariant: the lead and the numbers so far stand from the place on, and the cursor after them.
use Rattle.text_write.specs.Put.{Wrote}
use Rattle.load_write.specs.Openings.{opening_part}
use Rattle.load_write.proofs.put_opening.Given as goal

abbrev pub invariant-loop-n : goal.invariant-loop-n
invariant-loop-n l = Wrote (opening_part l.fn.opening l.n-index) l.fn.output l.at l.output l.p
