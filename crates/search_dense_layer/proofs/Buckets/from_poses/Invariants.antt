-- After b turns the poses below b are gathered.
use Rattle.search_buckets.specs.Rows.{by_poses}
use Rattle.search_dense_layer.specs.Thin.{poses_at, ThinGathered}
use Rattle.search_dense_layer.proofs.Buckets.from_poses.Given as goal

abbrev pub invariant-loop-b : goal.invariant-loop-b
invariant-loop-b l =
    ThinGathered (by_poses l.row l.source.left l.source.right (poses_at l.store l.source.at) l.b) l.source.buckets l.initial.self l.self
