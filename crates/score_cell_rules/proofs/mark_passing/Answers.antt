-- If the tall cells' sites do not fall no cell is marked; otherwise every pair is tried.
use Rattle.std.proofs.Common.{rules, tests, arith}
use Rattle.score_cell_rules.specs.Tests.{passes_in}
use Rattle.score_cell_rules.specs.Marks.{added_none, tried-added}
use Rattle.score_cell_rules.specs.Quick.{none_passed}
use Rattle.score_cell_rules.proofs.mark_passing.Goals as goal

pub returns-then-tall_rising : goal.returns-then-tall_rising
returns-then-tall_rising c =
    let w = c.args.stands.now in
    added_none (passes_in w) c.args.marks.now
    (λ k h. none_passed w (c.tall_rising.ensures c.if-tall_rising.true) k (omega (arith, c.requires)))

pub returns : goal.returns
returns c = tried-added (passes_in c.args.stands.now) c.mark_each.ensures (λ k b h t. search (rules, tests))
