use Rattle.std.proofs.Common.{rules, tests}
use Rattle.score_cell_rules.specs.Tests.{past_in}
use Rattle.score_cell_rules.specs.Marks.{tried-added}
use Rattle.score_cell_rules.proofs.mark_past.Goals as goal

pub returns : goal.returns
unfolding past_in
returns c = tried-added (past_in c.args.stands.now c.args.sites) c.mark_each.ensures (λ k b h t. search (rules, tests))
