-- `op_place::placement_of` meets its contract: each turn puts one cell's pose, and those put before stay.
use Prim.Native.Nat.{◌≤◌}
use Rattle.op_place.specs.Poses.{PosesSofar}
use Rattle.op_place.proofs.placement_of.Given as goal

abbrev pub invariant-loop-k : goal.invariant-loop-k
invariant-loop-k l = (l.k ≤ l.job.count) × PosesSofar l.job l.poses l.placement l.k
