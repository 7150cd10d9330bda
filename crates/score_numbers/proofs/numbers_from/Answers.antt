-- Each sum is the definition's, by how the cells stand (specs/Bridge).
use Rattle.std.proofs.Common.{◌≡◌, ◌<◌, ◌^◌, length, ℤ, to_z, of_z, ap, ◌∙◌, arith}
use lib.Signed.{mag}
use mir.Syntax.{w32}
use mir.Facts.{to_z-of_z}
use Rattle.job.specs.declared.Job.{Job}
use Rattle.job.specs.declared.Placement.{Placement}
use Rattle.job.specs.Value.{job_of, placement_of}
use Rattle.score_drift.specs.Total.{drift_of, flat-drift}
use Rattle.score_numbers.specs.Bridge.{steps_all, cost-sum, weights-small}
use Rattle.score_numbers.specs.Bridge.{flat-digits, flat-shifted, placed-mirrored, placed-changed}
use Rattle.score_numbers.proofs.numbers_from.Goals as goal

pub shifted_in-shifted-requires : goal.shifted_in-shifted-requires
shifted_in-shifted-requires c = flat-digits c.requires

-- the weights are in range, and there are not many steps
pub weighed_steps-weighed-requires : goal.weighed_steps-weighed-requires
weighed_steps-weighed-requires c =
    record { weights = weights-small c.args.job c.args.placement c.requires.ready; most = c.steps_both-steps.ensures.most }

-- none of the four numbers is large
pub weighed_sum-cost-requires : goal.weighed_sum-cost-requires
weighed_sum-cost-requires c =
    record {
      weights = weights-small c.args.job c.args.placement c.requires.ready;
      steps = c.weighed_steps-weighed.ensures.most;
      shifted = c.shifted_in-shifted.ensures.few;
      mirrored = omega arith;
      changed = omega arith;
    }

pub total_shift-requires : goal.total_shift-requires
total_shift-requires c = flat-digits c.requires

-- a call's signed result is read back from its bits
read : (z : ℤ) → mag z < 2 ^ 31 → to_z w32 (of_z w32 z) ≡ z
read z h = to_z-of_z {w = w32} (record { sfits = h })

pub returns : goal.returns
returns c =
    let job : Job = c.args.job in
    let P : Placement = c.args.placement in
    let r = c.requires.ready in
    let f = c.requires.flat in
    let t = c.steps_both-steps.ensures in
    let shifted = c.shifted_in-shifted.ensures.same ∙ flat-shifted f in
    let mirrored = c.mirrored_in-mirrored.ensures.same ∙ placed-mirrored job P r in
    let changed = c.changed_in-changed.ensures.same ∙ placed-changed job P r in
    record {
      steps = steps_all (job_of job) (placement_of P) c.steps_both-steps.result t;
      shifted = shifted;
      mirrored = mirrored;
      changed = changed;
      cost = c.weighed_sum-cost.ensures.same ∙ cost-sum job (placement_of P) c.steps_both-steps.result _ _ _ _ t c.weighed_steps-weighed.ensures shifted mirrored changed;
      drift = read c.drift_from-drift.result c.drift_from-drift.type_inv ∙ c.drift_from-drift.ensures
          ∙ ap (λ z. drift_of z (length c.args.stands.now)) (read c.total_shift.result c.total_shift.type_inv ∙ c.total_shift.ensures.total)
          ∙ flat-drift f;
      filled = t.filled;
      small = record {
        steps = omega (arith, t.most);
        shifted = omega arith;
        mirrored = omega arith;
        changed = omega arith;
        cost = omega arith;
        filled = omega (arith, t.most);
      };
    }
