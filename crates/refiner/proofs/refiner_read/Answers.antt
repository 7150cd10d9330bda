-- `refiner::refiner_read` meets its contract: a refusal's number and line, or 0, 0 and the cell count.
use mathlib.Core.List.{[], ◌∷◌}
use lib.ListN.{length}
use lib.IntN.{pos}
use mathlib.Core.Path.{◌≡◌, sym, ap, ◌∙◌}
use native.Mathlib.Omega.{arith}
use Prim.Native.Nat.{ℕ}
use Rattle.definition.specs.Outcome.{Outcome, read, Told, over, results_of}
use Rattle.demand_laws.specs.Demand1.{read_demand1}
use Rattle.definition_laws.specs.Outcomes.{read-refused, read-accepted}
use Rattle.job.specs.Value.{job_of}
use Rattle.job_read.specs.Reads.{reads-accepted, reads-refused}
use Rattle.results.specs.Refusals.{numbered}
use Rattle.refiner.proofs.refiner_read.Goals as goal

pub returns-in-Ok : goal.returns-in-Ok
returns-in-Ok c =
    let r = c.in-Ok.ensures in
    let many : length (job_of c.in-Ok.job).cells ≡ c.in-Ok.job.count = r.accepted.many in
    let e = read-accepted c.args.job.now (reads-accepted r) in
    let told : Told (read c.args.job.now) 0 c.args.results.now c.answer_one.new.results = record {
      number = ap (λ (o : Outcome). o.number) (sym e);
      array =
          c.answer_one.ensures
          ∙ ap (λ (n : ℕ). over (pos 0 ∷ pos 0 ∷ pos n ∷ []) c.args.results.now) (sym many)
          ∙ ap (λ (o : Outcome). over (results_of o) c.args.results.now) (sym e);
    } in
    record { told = told; demand1 = read_demand1 c.args.job.now told }

pub returns-in-Err : goal.returns-in-Err
returns-in-Err c =
    let r = c.in-Err.ensures in
    let some = (numbered c.in-Err.refusal).some in
    let e = read-refused c.args.job.now (reads-refused r) (λ z. omega arith) in
    let told : Told (read c.args.job.now) c.refuse_by.result c.args.results.now c.refuse_by.new.results = record {
      number = c.refuse_by.ensures.number ∙ ap (λ (o : Outcome). o.number) (sym e);
      array = c.refuse_by.ensures.array ∙ ap (λ (o : Outcome). over (results_of o) c.args.results.now) (sym e);
    } in
    record { told = told; demand1 = read_demand1 c.args.job.now told }
