-- Each turn puts one cell's pose, and those put before stay.
use mathlib.Core.Path.{refl, ap}
use native.Mathlib.Omega.{arith}
use lib.ListN.{length}
use Rattle.job.specs.declared.Placement.{Placement}
use Rattle.op_place.specs.Poses.{given-low, sofar-more, sofar-all}
use Rattle.op_place.proofs.placement_of.Goals as goal

pub loop-k-init : goal.loop-k-init
loop-k-init c = (
  omega arith,
  record {
    count = refl;
    long = ap (λ (P : Placement). length P.poses) c.empty-placement.ensures;
    done = λ i h. absurd (omega arith);
  },
)

pub pose_of-requires : goal.pose_of-requires
pose_of-requires c =
    record { given = given-low c.args.job c.args.poses c.requires.taken c.loop-k.k (omega arith); low = c.requires.low c.loop-k.k }

pub loop-k-preserved : goal.loop-k-preserved
loop-k-preserved c =
    let limit = ap (λ o. o.limit) c.offer_of-offer.ensures in (
      omega arith,
      sofar-more c.args.job c.args.poses c.loop-k.invariant.1 (omega arith) c.requires.taken.few limit c.pose_of.ensures,
    )

pub returns : goal.returns
returns c =
    sofar-all c.args.job c.args.poses c.requires.taken c.loop-k.invariant.1 (omega arith)
