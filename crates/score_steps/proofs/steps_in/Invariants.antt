-- Invariant: with those of the neighbours from the last cell on, the steps are the row's.
use Rattle.std.proofs.Common.{◌≡◌, ℕ, ◌+◌, ◌*◌, ◌-◌, ◌≤◌, List, drop}
use Rattle.definition.specs.Lists.{sum_next}
use Rattle.definition.specs.Cost.{touching, filled, steps_at}
use Rattle.job.specs.declared.Job.{Job}
use Rattle.job.specs.declared.Placement.{Placement}
use Rattle.job.specs.Value.{job_of, placement_of}
use Rattle.score_steps.proofs.steps_in.Given as goal

-- the steps of the neighbours from i on, by a charge
abbrev pub summed : Job → Placement → List ℕ → ℕ → ℕ → (ℕ → ℕ) → ℕ
summed job placement order row i by = sum_next (steps_at by (job_of job) (placement_of placement) row) (drop i order)

pub record StepsSummed (sums : ℕ → (ℕ → ℕ) → ℕ) (x y i : ℕ) : Type 0 where
  pub small : x + y + 2 ≤ 2 * i
  pub touches : x + sums (i - 1) touching ≡ sums 0 touching
  pub fills : y + sums (i - 1) filled ≡ sums 0 filled

abbrev pub invariant-loop-i : goal.invariant-loop-i
invariant-loop-i l = StepsSummed (summed l.job l.placement l.order l.row) l.touching l.filled l.i
