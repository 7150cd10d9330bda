-- A job text read for buffers of so many words and bytes: an accepted job for which they are enough, or a refusal.
use Rattle.std.specs.Prelude.{ℕ, ◌≤◌, ◌<◌, ◌^◌, ◌≡◌, Result, MatchResult}
use Rattle.std.proofs.Math.Option.{none}
use Rattle.definition.specs.Texts.{Text}
use Rattle.definition.specs.Job as paper
use Rattle.definition.specs.Job.{accepted, read_job}
use Rattle.definition.specs.Outcome.{store_needed, output_needed, buffer_refusal, refused_by, place_field_count}
use Rattle.definition.specs.Outcome.{place_outcome}
use Rattle.job.specs.declared.Job.{Job}
use Rattle.job.specs.Value.{job_of}
use Rattle.job.specs.Accepted.{Accepted}
use Rattle.results.specs.declared.Refusal.{Refusal}
use Rattle.results.specs.Refusals.{line_of, refusal_of}

-- an accepted job, and buffers that are enough
pub record JobFits (source : Text) (words room : ℕ) (job : Job) : Type 0 where
  pub read : read_job source ≡ accepted (job_of job)
  pub taken : Accepted job
  pub store : store_needed (job_of job) ≤ words
  pub output : output_needed (job_of job) ≤ room

-- Place refuses so, whatever may be answered otherwise
pub record PlaceRefused (source : Text) (words room : ℕ) (r : Refusal) : Type 0 where
  pub line : line_of r < 2 ^ 31
  pub none_taken : (j : paper.Job) → read_job source ≡ accepted j → buffer_refusal j words room ≡ 0 → ⊥
  pub outcome : (count : ℕ) → place_outcome count (read_job source) words room none
      ≡ refused_by (place_field_count count) (refusal_of r)

abbrev pub ReadWithBuffers : Text → ℕ → ℕ → Result Job Refusal → Type 0
ReadWithBuffers source words room r =
    MatchResult r (λ job. JobFits source words room job) (λ f. PlaceRefused source words room f)
