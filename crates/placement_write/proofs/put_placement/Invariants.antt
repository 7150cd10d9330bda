-- The loop's invariant: the lines of the cells so far stand from the output's first byte on, and the cursor after them.
use lib.ListN.{take}
use Rattle.definition.specs.Placement.{text_of}
use Rattle.job.specs.Value.{placement_of}
use Rattle.text_write.specs.Put.{Wrote}
use Rattle.placement_write.proofs.put_placement.Given as goal

abbrev pub invariant-loop-pose : goal.invariant-loop-pose
invariant-loop-pose l = Wrote (text_of (take l.pose-index (placement_of l.fn.placement))) l.initial.output 0 l.output l.at
