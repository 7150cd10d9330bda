use native.Mathlib.Omega.{arith}
use Rattle.search_buckets.specs.Sources.{poses-none, poses-more}
use Rattle.search_dense_layer.specs.Thin.{poses_at}
use Rattle.search_dense_layer.specs.Laws.{gathered_none, gathered-join}
use Rattle.search_dense_layer.proofs.Buckets.from_poses.Goals as goal

pub loop-b-init : goal.loop-b-init
loop-b-init c =
    gathered_none c.args.source.buckets c.requires.arrays
    (λ v t h. omega (arith, poses-none c.args.row.now c.args.source.left c.args.source.right (poses_at c.args.store.now c.args.source.at) v t))

pub loop-b-preserved : goal.loop-b-preserved
loop-b-preserved c =
    let l = c.loop-b in
    gathered-join l.invariant c.from_pose.ensures
    (λ v t. poses-more c.args.row.now c.args.source.left c.args.source.right (poses_at c.args.store.now c.args.source.at) l.b v t)
