-- `refiner::refiner_score` meets its contract: the fields, or the refusal and as many zeros, written to the results.
use Prim.Native.Nat.{◌≤◌}
use native.Mathlib.Omega.{arith}
use borrow.Author.Rules.{rules}
use Rattle.demand_laws.specs.Demand1.{score_demand1}
use Rattle.definition_laws.specs.Counts.{of-count}
use Rattle.refiner.proofs.refiner_score.Goals as goal

pub refuse_by-requires : goal.refuse_by-requires
refuse_by-requires c =
    record { line = c.in-Err.ensures.line; few = omega (arith, of-count (λ n. n ≤ 7) (omega arith) (omega arith) c.args.job.now) }

pub returns-in-Ok-clause-demand1 : goal.returns-in-Ok-clause-demand1
returns-in-Ok-clause-demand1 c = score_demand1 c.args.job.now c.args.placement.now (search rules)

pub returns-in-Err-clause-demand1 : goal.returns-in-Err-clause-demand1
returns-in-Err-clause-demand1 c = score_demand1 c.args.job.now c.args.placement.now (search rules)
