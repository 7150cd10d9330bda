use Rattle.std.proofs.Common.{◌≡◌, ℕ, ◌+◌, ◌-◌, List, get_or, ap, ◌∙◌, arith}
use Rattle.definition.specs.Cost.{touching, filled, steps_at}
use Rattle.job.specs.declared.Job.{Job}
use Rattle.job.specs.declared.Placement.{Placement}
use Rattle.job.specs.Value.{job_of, placement_of}
use Rattle.score_steps.specs.Steps.{sum_more}
use Rattle.score_steps.proofs.Neighbours.{steps-value}
use Rattle.score_steps.proofs.steps_in.Invariants.{summed}
use Rattle.score_steps.proofs.steps_in.Goals as goal

pub loop-i-preserved : goal.loop-i-preserved
loop-i-preserved c =
    let m = c.loop-i.invariant in
    let r = c.requires in
    let job : Job = c.args.job in
    let P : Placement = c.args.placement in
    let o : List ℕ = c.args.order.now in
    let i : ℕ = c.loop-i.i in
    let j : ℕ = i - 1 in
    let a : ℕ = get_or o j 0 in
    let b : ℕ = get_or o i 0 in
    let f : (ℕ → ℕ) → ℕ = λ by. steps_at by (job_of job) (placement_of P) c.args.row a b in
    let same : i ≡ i + 1 - 1 = omega arith in
    let more = λ (by : ℕ → ℕ).
    sum_more (steps_at by (job_of job) (placement_of P) c.args.row) o j i (omega arith) (omega arith)
    ∙ ap (λ n. f by + summed job P o c.args.row n by) same in
    let e = c.steps_of-steps.ensures in
    let s = c.steps_of-steps.result in
    let value = λ (n : ℕ). steps-value job P c.args.stands.now c.args.row a b n r.flat r.each (r.cells j (omega arith)) (r.cells i (omega arith)) in
    record {
      small = omega arith;
      touches = omega (arith, more touching, m.touches, value s.touching touching (rw c.gap_between.ensures at e.touching));
      fills = omega (arith, more filled, m.fills, value s.filled filled (rw c.gap_between.ensures at e.filled));
    }
