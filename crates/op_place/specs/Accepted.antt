-- An accepted job with buffers that are enough, what is then answered, and the pose numbers that an answer stands for.
use Rattle.std.specs.Prelude.{ℕ, ◌≤◌, ◌<◌, List}
use Rattle.std.proofs.Math.Option.{Option}
use Rattle.definition.specs.Job as paper
use Rattle.definition.specs.Placement.{Placement}
use Rattle.definition.specs.Rules.{Legal}
use Rattle.definition.specs.Moves.{Cheapest}
use Rattle.definition.specs.Outcome.{store_needed, output_needed, place_answer, Buffers, Met}
use Rattle.job.specs.declared.Job.{Job}
use Rattle.job.specs.Value.{job_of}
use Rattle.job.specs.Accepted.{Accepted}
use Rattle.theory_claim.specs.Claim.{placement_by_numbers}
use Rattle.score_numbers.specs.Counted.{SixOrSeven}
use Rattle.search_job.specs.Solved.{numbers_in}

-- how many numbers are asked for, and buffers that are enough
pub record Enough (job : Job) (count words room : ℕ) : Type 0 where
  pub taken : Accepted job
  pub many : SixOrSeven count
  pub store : store_needed (job_of job) ≤ words
  pub output : output_needed (job_of job) ≤ room

-- what is then answered
pub record Answered (count : ℕ) (j : paper.Job) (returned : ℕ) (before end : Buffers) : Type 0 where
  pub answer : Option Placement
  pub cheapest : Cheapest j answer
  pub met : Met (place_answer count j answer) returned before end

-- ---- pose numbers of a legal placement, and an output that holds its text

abbrev pub placement_in : Job → List ℕ → Placement
placement_in job poses = placement_by_numbers (job_of job) (numbers_in poses)

pub record Chosen (job : Job) (poses : List ℕ) (room : ℕ) : Type 0 where
  pub taken : Accepted job
  pub numbers : (k : ℕ) → numbers_in poses k < 64
  pub legal : Legal (job_of job) (placement_in job poses)
  pub output : output_needed (job_of job) ≤ room

-- these, and how many numbers are asked for
pub record ToAnswer (job : Job) (count : ℕ) (poses : List ℕ) (room : ℕ) : Type 0 where
  pub chosen : Chosen job poses room
  pub many : SixOrSeven count
