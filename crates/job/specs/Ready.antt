-- What scoring presumes of a job and a placement: the reader accepted the job, and the placement has a pose for each
-- cell, of four digits.
use Rattle.std.specs.Prelude.{ℕ, ◌≤◌, ◌<◌, ◌≡◌}
use Rattle.job.specs.declared.Job.{Job}
use Rattle.job.specs.declared.Placement.{Placement}
use Rattle.job.specs.Value.{pose_at}
use Rattle.job.specs.Accepted.{Accepted}

pub record Ready (job : Job) (placement : Placement) : Type 0 where
  pub accepted : Accepted job
  pub each : placement.count ≡ job.count
  pub site : (k : ℕ) → k < job.count → (pose_at placement k).site ≤ 9999
