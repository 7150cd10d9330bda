-- `op_score::fields_of` meets its contract: rule and cell, then the numbers, which are all 0 where a rule is broken.
use Prim.Native.Nat.{◌^◌, ◌<◌}
use mathlib.Core.Path.{◌≡◌, sym, ap, ap₂, ◌∙◌}
use mathlib.Core.List.{List, [], ◌∷◌, ◌++◌}
use native.Mathlib.Omega.{arith}
use lib.ListN.{length, take, length-take}
use lib.IntN.{ℤ, pos}
use mir.Syntax.{w32}
use mir.Facts.{to_z_pos}
use Rattle.definition.specs.Rules.{Verdict, verdict}
use Rattle.job.specs.declared.Job.{Job}
use Rattle.job.specs.declared.Placement.{Placement}
use Rattle.job.specs.Ready.{Ready}
use Rattle.std.specs.Prelude.{Some}
use Rattle.score_verdict.specs.declared.Breach.{Breach}
use Rattle.score_verdict.specs.Judged.{Judged}
use Rattle.job.specs.Value.{job_of, placement_of}
use Rattle.results.specs.Fields.{More, more-then}
use Rattle.score_numbers.specs.declared.Numbers.{Numbers}
use Rattle.score_numbers.specs.Counted.{numbers_in}
use Rattle.score_verdict.specs.Rules.{rule_count}
use Rattle.op_score.specs.Bounds.{VerdictSmall, verdict-small}
use Rattle.op_score.specs.Fields.{broken-fields, legal-fields}
use Rattle.op_score.proofs.fields_of.Goals as goal

-- the definition's verdict, which is of small numbers
verdict-at : Job → Placement → Verdict
verdict-at job P = verdict (job_of job) (placement_of P)

small : (job : Job) (P : Placement) → VerdictSmall rule_count (length (job_of job).cells) (verdict-at job P)
unfolding verdict-at
small job P = verdict-small (job_of job) (placement_of P)

module _ (job : Job) (P : Placement) {b : Breach} (t : Judged (verdict (job_of job) (placement_of P)) (Some b)) where
  same-rule : b.rule ≡ (verdict-at job P).rule
  unfolding verdict-at
  same-rule = t.rule

  same-cell : b.cell ≡ (verdict-at job P).cell
  unfolding verdict-at
  same-cell = t.cell

  rule-low : b.rule < 2 ^ 31
  rule-low = omega (arith, same-rule, (small job P).rule)

  cell-low : Ready job P → b.cell < 2 ^ 31
  cell-low ready = omega (arith, same-cell, (small job P).cell, ready.accepted.sound.few)

pub overflow_cast-breach : goal.overflow_cast-breach
overflow_cast-breach c = record { sfits = omega (arith, rule-low c.args.job.now c.args.placement.now c.in-Some.ensures) }

pub overflow_cast-breach-in-Some : goal.overflow_cast-breach-in-Some
overflow_cast-breach-in-Some c =
    let v = c.in-Some.ensures in
    record { sfits = omega (arith, rule-low c.args.job.now c.args.placement.now v, cell-low c.args.job.now c.args.placement.now v c.requires.ready) }

pub returns-in-Some : goal.returns-in-Some
unfolding verdict-at
returns-in-Some c =
    let j = job_of c.args.job.now in
    let P = placement_of c.args.placement.now in
    let v = c.in-Some.ensures in
    let two : More c.empty.result (pos (verdict-at c.args.job.now c.args.placement.now).rule ∷ pos (verdict-at c.args.job.now c.args.placement.now).cell ∷ []) c.push-fields-in-Some.result =
    rw (
      ← same-rule c.args.job.now c.args.placement.now v,
      ← same-cell c.args.job.now c.args.placement.now v,
      ← to_z_pos w32 (rule-low c.args.job.now c.args.placement.now v),
      ← to_z_pos w32 (cell-low c.args.job.now c.args.placement.now v c.requires.ready),
    ) (more-then c.push-fields.ensures c.push-fields-in-Some.ensures) in
    let all = more-then two c.push_numbers.ensures in
    let n = c.args.count in
    let fields : Numbers → List ℤ = λ x. pos (verdict j P).rule ∷ pos (verdict j P).cell ∷ take n (numbers_in x) in
    record {
      list =
          all.list
          ∙ ap (λ (l : List ℤ). l ++ fields c.zero.result) c.empty.ensures.list
          ∙ ap fields c.zero.ensures
          ∙ broken-fields n j P (verdict j P) c.requires.many.seven (λ z. omega (arith, v.broken, v.rule, z));
      few = omega (arith, all.count, c.empty.ensures.count, length-take c.args.count (numbers_in c.zero.result));
    }

pub returns-in-None : goal.returns-in-None
returns-in-None c =
    let j = job_of c.args.job.now in
    let P = placement_of c.args.placement.now in
    let v = c.in-None.ensures in
    let n = c.numbers_of in
    let all = c.push_numbers-in-None.ensures in
    record {
      list =
          all.list
          ∙ ap (λ (l : List ℤ). l ++ take c.args.count (numbers_in n.result)) c.zeros-fields.ensures.list
          ∙ ap₂ (λ r k. pos r ∷ pos k ∷ take c.args.count (numbers_in n.result)) v.rule v.cell
          ∙ legal-fields c.args.count j P (verdict j P) n.result (sym v.rule) n.ensures;
      few = omega (arith, all.count, c.zeros-fields.ensures.count, length-take c.args.count (numbers_in n.result));
    }
