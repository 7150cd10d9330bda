-- The poses read so far, with what the rest of the lines reads as, make up the reading of the whole text.
use Rattle.placement_read.proofs.Sofar.{LinesSofar, first_poses}
use Rattle.placement_read.proofs.read_placement.Given as goal

abbrev pub invariant-loop-n : goal.invariant-loop-n
invariant-loop-n l = LinesSofar l.text l.due (first_poses l.placement l.n) l.at
