-- A placement by pose numbers: what the program makes of them is the definition's.
use Prim.Native.Nat.{ℕ, ◌+◌, ◌-◌, ◌/◌, ◌%◌, ◌≤◌, ◌<◌}
use Rattle.std.specs.Prelude.{◌≡◌, List, length, get_or, take, set}
use Rattle.std.proofs.Math.Path.{sym, ap}
use Rattle.std.proofs.Common.{◌∙◌, arith, length-set, get_or-set_same, get_or-set_other, length-take-le}
use Rattle.std.proofs.Math.Decide.{ℕ_discrete}
use Rattle.std.proofs.lemmas.List.{length-map}
use Rattle.std.proofs.Math.Seq.{ext_get_or}
use Rattle.definition.specs.Job.{max_cells, max_given}
use Rattle.definition.specs.Placement as text
use Rattle.definition.specs.Rules.{Offer, offer_of, no_pose}
use Rattle.job.specs.declared.Cell.{Cell}
use Rattle.job.specs.declared.Pose.{Pose}
use Rattle.job.specs.declared.Job.{Job}
use Rattle.job.specs.declared.Placement.{Placement}
use Rattle.job.specs.Value as value
use Rattle.job.specs.Value.{cell_of, header_of, job_of, pose_of, empty_pose, placement_of}
use Rattle.job.specs.Cells.{cell-there, pose-there}
use Rattle.theory_bridge.specs.Paired.{pose_number}
use Rattle.theory_bridge.specs.Poses.{pose-same, placement-size, placement-pose}
use Rattle.search_job.specs.Solved.{numbers_in}
use Rattle.job.specs.Accepted.{Accepted}
use Rattle.op_place.specs.Accepted.{placement_in}

-- a cell whose given site is in range, and a pose number for it
pub record ToPose (c : Cell) (a : ℕ) : Type 0 where
  pub given : c.given ≤ max_given
  pub low : a < 64

-- pose number a of a cell with that limit and given site
pub record PoseBy (limit given a : ℕ) (p : Pose) : Type 0 where
  pub site : p.site ≡ given + a / 4 - limit
  pub layout : p.layout ≡ a % 4 / 2
  pub mark : p.mark ≡ a % 2

-- an accepted job, and a pose number for each cell
pub record ByNumber (job : Job) (poses : List ℕ) : Type 0 where
  pub taken : Accepted job
  pub low : (k : ℕ) → numbers_in poses k < 64

-- the placement that they stand for
pub record Numbered (job : Job) (poses : List ℕ) (P : Placement) : Type 0 where
  pub count : P.count ≡ job.count
  pub same : placement_of P ≡ placement_in job poses

-- the first k poses are there
pub record PosesSofar (job : Job) (poses : List ℕ) (P : Placement) (k : ℕ) : Type 0 where
  pub count : P.count ≡ job.count
  pub long : length P.poses ≡ max_cells
  pub done : (i : ℕ) → i < k → pose_of (value.pose_at P i) ≡ pose_number (job_of job) i (numbers_in poses i)

module _ (job : Job) (poses : List ℕ) where
  pub given-low : Accepted job → (k : ℕ) → k < job.count → (value.cell_at job k).given ≤ max_given
  unfolding cell_of
  given-low t k h = let e = cell-there job k h in let s = (t.sound.cell k (omega (arith, t.many))).given in rw e at s

  -- what cell k is offered, by value
  abbrev offered : ℕ → Offer
  offered k = offer_of (header_of job.header) (cell_of (value.cell_at job k))

  pose-numbered : (k limit : ℕ) (p : Pose) → k < job.count → limit ≡ (offered k).limit
      → PoseBy limit (value.cell_at job k).given (numbers_in poses k) p
      → pose_of p ≡ pose_number (job_of job) k (numbers_in poses k)
  unfolding pose_number job_of cell_of
  pose-numbered k limit p h e b =
      pose-same (pose_of p) (pose_number (job_of job) k (numbers_in poses k))
      (b.site ∙ ap (λ x. (value.cell_at job k).given + numbers_in poses k / 4 - x) e
      ∙ ap (λ c. c.given + numbers_in poses k / 4 - (offer_of (header_of job.header) c).limit)
      (sym (cell-there job k h)))
      b.layout b.mark

  pub sofar-more : {P : Placement} {k limit : ℕ} {p : Pose} → PosesSofar job poses P k → k < job.count
      → job.count ≤ max_cells → limit ≡ (offered k).limit
      → PoseBy limit (value.cell_at job k).given (numbers_in poses k) p
      → PosesSofar job poses (record { count = P.count; poses = set P.poses k p }) (k + 1)
  sofar-more {P} {k} {limit} {p} s h few same b =
      record { count = s.count; long = simp length-set s.long; done = λ i l. go i l (ℕ_discrete i k) }
    where
      go : (i : ℕ) → i < k + 1 → Dec (i ≡ k)
          → pose_of (get_or (set P.poses k p) i empty_pose) ≡ pose_number (job_of job) i (numbers_in poses i)
      go i l (yes e) =
          let m : k < length P.poses = omega (arith, s.long) in
          rw (e, get_or-set_same P.poses k p empty_pose m) (pose-numbered k limit p h same b)
      go i l (no d) = rw (get_or-set_other P.poses k i p empty_pose d) (s.done i (omega arith))

  pub sofar-all : {P : Placement} {k : ℕ} → Accepted job → PosesSofar job poses P k → k ≡ job.count
      → Numbered job poses P
  unfolding placement_of
  sofar-all {P} {k} t s e = record {
    count = s.count;
    same = ext_get_or no_pose (placement_of P) (placement_in job poses) (long ∙ sym (size ∙ t.many)) λ i h.
        let l : i < job.count = omega (arith, long) in
        pose-there P i (omega (arith, s.count)) ∙ s.done i (omega arith)
        ∙ sym (placement-pose f (length (job_of job).cells) i (omega (arith, t.many)));
  }
    where
      f : ℕ → text.Pose
      f i = pose_number (job_of job) i (numbers_in poses i)

      long : length (placement_of P) ≡ job.count
      long =
          length-map (take P.count P.poses) pose_of
          ∙ length-take-le P.count P.poses (omega (arith, s.count, s.long, t.few)) ∙ s.count

      size : length (placement_in job poses) ≡ length (job_of job).cells
      size = placement-size f (length (job_of job).cells)
