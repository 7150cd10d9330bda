use Rattle.std.proofs.Common.{rules, tests}
use Rattle.job.specs.Value.{job_of, placement_of}
use Rattle.definition.specs.Rules.{breaks1}
use Rattle.score_cell_rules.specs.Offered.{choice-asked}
use Rattle.score_cell_rules.specs.Marks.{tried-added}
use Rattle.score_cell_rules.proofs.mark_unoffered.Goals as goal

pub returns : goal.returns
returns c = tried-added (breaks1 (job_of c.args.job.now) (placement_of c.args.placement.now)) c.mark_each.ensures (λ k b h t. search (rules, tests, choice-asked))
