use mathlib.Core.Logic.{inl, inr}
use borrow.Author.Rules.{rules}
use Rattle.text_scan.proofs.Counted.{counted_none, counted-more, counted-end}
use Rattle.text_scan.proofs.read_numbers.Goals as goal
use Rattle.text_scan.proofs.read_numbers.Goals.{then-count-lt24, else-count-lt24}

pub loop-n-init : goal.loop-n-init
loop-n-init c = counted_none _ _ c.requires

pub returns-then-eq : goal.returns-then-eq
returns-then-eq c =
    counted-end c.loop-n.invariant c.in_ok-n.ensures (search rules)
    c.if-count-lt24.values
    (elim c.if-count-lt24.branch [
      | then-count-lt24 w ↦ inl (w.if-count-lt24.true, w.values-is)
      | else-count-lt24 w ↦ inr (w.if-count-lt24.false, w.values-is)
    ])

pub loop-n-preserved : goal.loop-n-preserved
loop-n-preserved c =
    counted-more c.loop-n.invariant c.in_ok-n.ensures (search rules)
    c.if-count-lt24.values
    (elim c.if-count-lt24.branch [
      | then-count-lt24 w ↦ inl (w.if-count-lt24.true, w.values-is)
      | else-count-lt24 w ↦ inr (w.if-count-lt24.false, w.values-is)
    ])
