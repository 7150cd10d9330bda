-- After a turns the lanes are lowered to the poses below a, each with what it pays as the last.
use Rattle.search_lanes.specs.Lanes.{Lowered}
use Rattle.search_wide_end.specs.Ends.{least_poses_in}
use Rattle.search_wide_end.proofs.least_poses.Given as goal

abbrev pub invariant-loop-a : goal.invariant-loop-a
invariant-loop-a l = Lowered (least_poses_in l.row l.k l.store l.at l.q l.a) l.lanes l.initial.acc l.acc
