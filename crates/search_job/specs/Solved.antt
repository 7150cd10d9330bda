-- What the search of a job is given, and what it finds.
use Rattle.std.specs.Prelude.{ℕ, ◌≤◌, ◌<◌, ◌≡◌, Bool, true, false, List, length, get_or, Option, MatchOption}
use Rattle.std.proofs.Math.Option.{none, some}
use Rattle.definition.specs.Job as paper
use Rattle.definition.specs.Cost.{cost}
use Rattle.definition.specs.Moves.{Cheapest}
use Rattle.definition.specs.Outcome.{store_needed}
use Rattle.theory_tables.specs.Steps.{pose_slots}
use Rattle.job.specs.declared.Job.{Job}
use Rattle.job.specs.Value.{job_of}
use Rattle.job.specs.Accepted.{Accepted}
use Rattle.search.specs.declared.Found.{Found}
use Rattle.theory_claim.specs.Claim.{placement_by_numbers}

-- an accepted job, and a store that is large enough, whatever its words
pub record JobAsked (job : Job) (store : List ℕ) : Type 0 where
  pub accepted : Accepted job
  pub long : store_needed (job_of job) ≤ length store

-- pose numbers, cell by cell
abbrev pub numbers_in : List ℕ → ℕ → ℕ
numbers_in poses k = get_or poses k 0

-- nothing, where no list of moves ends legally; otherwise the pose numbers of a cheapest placement, and its cost
pub record Solved (j : paper.Job) (found : Bool) (least : ℕ) (poses : List ℕ) : Type 0 where
  pub none_when : found ≡ false → Cheapest j none
  pub some_when : found ≡ true → Cheapest j (some (placement_by_numbers j (numbers_in poses)))
  pub stated : found ≡ true → cost j (placement_by_numbers j (numbers_in poses)) ≡ least
  pub numbers : (k : ℕ) → get_or poses k 0 < pose_slots

-- the same of what is found, if anything is
abbrev pub SolvedIfAny : paper.Job → Option Found → Type 0
SolvedIfAny j r = MatchOption r (Cheapest j none) (λ f. Solved j true f.cost f.poses)
