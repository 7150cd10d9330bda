-- Each turn writes one word more.
use Rattle.search_lanes.specs.Store.{Written}
use Rattle.search_dense_first.specs.Starts.{first_pose}
use Rattle.search_dense_first.proofs.put_poses.Given as goal

abbrev pub invariant-loop-a : goal.invariant-loop-a
invariant-loop-a l = Written (first_pose l.row l.tall l.k) l.at l.a l.initial.store l.store
