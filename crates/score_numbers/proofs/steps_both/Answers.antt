-- The steps of row 0 and of row 1, each kind apart.
use native.Mathlib.Omega.{arith}
use Rattle.definition.specs.Cost.{touching, filled}
use Rattle.job.specs.Value.{job_of, placement_of}
use Rattle.score_numbers.specs.Bridge.{steps-sum}
use Rattle.score_numbers.proofs.steps_both.Goals as goal

pub returns : goal.returns
returns c =
    let a = c.steps_row-a.ensures in
    let b = c.steps_row-b.ensures in
    let job = job_of c.args.job in
    let P = placement_of c.args.placement in
    record {
      touching = steps-sum touching job P _ _ a.touching b.touching;
      filled = steps-sum filled job P _ _ a.filled b.filled;
      most = omega (arith, a.most, b.most);
    }
