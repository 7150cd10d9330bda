-- What an accepted job gives, by value: it is sound, its count is that of its cells, and there are no more than a
-- job may have.
use Rattle.std.specs.Prelude.{◌≤◌, ◌≡◌, length}
use Rattle.definition.specs.Job.{max_cells}
use Rattle.definition_laws.specs.Sound.{Sound}
use Rattle.job.specs.declared.Job.{Job}
use Rattle.job.specs.Value.{job_of}

pub record Accepted (job : Job) : Type 0 where
  pub sound : Sound (job_of job)
  pub few : job.count ≤ max_cells
  pub many : length (job_of job).cells ≡ job.count
