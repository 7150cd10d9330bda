-- The text begins with these two bytes just where the definition's test of its first two says so.
use Rattle.std.proofs.Common.{◌≡◌, ◌&&◌, cond, [], ◌∷◌, get_or, eqb, ap, ◌∙◌, arith}
use Rattle.std.specs.List.{starts_with}
use Rattle.definition.specs.Texts.{Text, comma}
use Rattle.definition.specs.Job.{filled_lead}
use Rattle.definition.specs.Outcome.{number_count}
use Rattle.score_numbers.proofs.number_count.Goals as goal

leads : (job : Text) → starts_with eqb job (75 ∷ 44 ∷ []) ≡ (eqb (get_or job 0 0) filled_lead && eqb (get_or job 1 0) comma)
leads [] = grind arith
leads (b ∷ []) = grind arith
leads (b ∷ c ∷ l) = grind arith

pub returns-then-starts_with : goal.returns-then-starts_with
unfolding number_count
returns-then-starts_with c = ap (λ t. cond t 7 6) (c.if-starts_with.ensures.value ∙ leads c.args.job.now)

pub returns-else-starts_with : goal.returns-else-starts_with
unfolding number_count
returns-else-starts_with c = ap (λ t. cond t 7 6) (c.if-starts_with.ensures.value ∙ leads c.args.job.now)
