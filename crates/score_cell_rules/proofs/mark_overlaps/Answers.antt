-- If both rows are in line no cell is marked; otherwise every pair is tried.
use Rattle.std.proofs.Common.{rules, tests, arith}
use Rattle.score_cell_rules.specs.Tests.{clashes_in}
use Rattle.score_cell_rules.specs.Marks.{added_none, tried-added}
use Rattle.score_cell_rules.specs.Quick.{row-clear, no_clashes}
use Rattle.score_cell_rules.proofs.mark_overlaps.Goals as goal

pub returns-then-in_line-2 : goal.returns-then-in_line-2
returns-then-in_line-2 c =
    let w = c.args.stands.now in
    let c₀ = row-clear c.requires.row0 (c.in_line.ensures c.if-in_line.true) in
    let c₁ = row-clear c.requires.row1 (c.in_line-then-in_line.ensures c.if-in_line-2.true) in
    added_none (clashes_in w) c.args.marks.now (λ k h. no_clashes w c₀ c₁ k (omega (arith, c.requires.marks)))

pub returns : goal.returns
returns c = tried-added (clashes_in c.args.stands.now) c.mark_each.ensures (λ k b h t. search (rules, tests))
