-- A placement kept in an array: the empty one, and one more pose.
use Prim.Native.Nat.{ℕ, zero, suc, ◌+◌, ◌<◌}
use mathlib.Core.Path.{◌≡◌, refl, ap}
use mathlib.Core.List.{List, [], ◌∷◌, ◌++◌, map}
use native.Mathlib.Omega.{arith}
use native.Mathlib.Decide.{ℕ_discrete}
use native.Mathlib.Numerals.{add-one}
use lib.ListN.{length, get_or, set, take, replicate, length-set, length-replicate}
use lib.Seq.{take-suc-set, get_or-set_same, get_or-set_other}
use Rattle.definition.specs.Job.{max_cells}
use Rattle.definition.specs.Placement.{Printable}
use Rattle.job.specs.Value.{empty_pose, empty_placement, pose_of, placement_of}
use Rattle.job.specs.declared.Pose.{Pose}
use Rattle.job.specs.declared.Placement.{Placement}
use Rattle.placement_read.specs.Reading.{Kept, Grown}

none-there : (n k : ℕ) → get_or (replicate n empty_pose) k empty_pose ≡ empty_pose
none-there zero k = refl
none-there (suc n) zero = refl
none-there (suc n) (suc k) = none-there n k

pub empty-kept : (P : Placement) → P ≡ empty_placement → Kept P
empty-kept P e =
    rw e
    (record {
      long = length-replicate max_cells empty_pose;
      many = omega arith;
      small = λ k. rw (none-there max_cells k) (record { site = omega arith; layout = omega arith; mark = omega arith });
    })

map_snoc : (l : List Pose) (p : Pose) → map pose_of (l ++ (p ∷ [])) ≡ map pose_of l ++ (pose_of p ∷ [])
map_snoc [] p = refl
map_snoc (q ∷ l) p = ap (λ r. pose_of q ∷ r) (map_snoc l p)

pub grow : (P : Placement) (p : Pose) → Kept P → P.count < max_cells → Printable (pose_of p)
    → Grown P p (record { count = P.count + 1; poses = set P.poses P.count p })
unfolding placement_of
grow P p k h s = record {
  kept = record { long = simp length-set k.long; many = omega arith; small = λ i. go i (ℕ_discrete i P.count) };
  count = omega arith;
  poses = rw (add-one P.count, take-suc-set P.poses P.count p low) (map_snoc (take P.count P.poses) p);
}
  where
    low : P.count < length P.poses
    low = omega (arith, k.long)

    go : (i : ℕ) → Dec (i ≡ P.count) → Printable (pose_of (get_or (set P.poses P.count p) i empty_pose))
    go i (yes e) = rw (e, get_or-set_same P.poses P.count p empty_pose low) s
    go i (no d) = rw (get_or-set_other P.poses P.count i p empty_pose d) (k.small i)
