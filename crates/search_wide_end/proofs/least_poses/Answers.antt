use native.Mathlib.Omega.{arith}
use Rattle.search_buckets.specs.Ends.{poses-none, poses-more}
use Rattle.search_lanes.specs.Store.{layer_in}
use Rattle.search_lanes.specs.Laws.{lowered_to, lowered_join}
use Rattle.search_row.specs.Words.{back_in}
use Rattle.search_wide_end.proofs.least_poses.Goals as goal

pub loop-a-init : goal.loop-a-init
loop-a-init c =
    lowered_to _ c.requires.least.low (λ l h. omega (arith, poses-none (back_in c.args.row.now c.args.k) (layer_in c.args.store.now c.args.at l) c.args.q))

pub loop-a-preserved : goal.loop-a-preserved
loop-a-preserved c =
    lowered_join c.loop-a.invariant c.least_pose.ensures
    (λ j h. poses-more (back_in c.args.row.now c.args.k) (layer_in c.args.store.now c.args.at j) c.args.q c.loop-a.a)
