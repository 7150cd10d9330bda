use Rattle.std.proofs.Common.{◌∙◌, ◌≡◌, sym, arith, rules}
use Rattle.std.specs.Slice.Iter.{windows_rest}
use Rattle.score_row_rules.specs.Near.{judging_all, judged_all, judged-hit, judged-miss}
use Rattle.score_row_rules.proofs.mark_row_gaps.Goals as goal

pub loop-pair-init : goal.loop-pair-init
loop-pair-init c =
    let e : windows_rest c.into_iter-pair-iterator.result ≡ c.args.order.now = search rules in
    (search rules, rw e (judging_all c.args.stands.now c.args.order.now c.args.marks.now c.requires))

pub loop-pair-preserved-then-gap_between-eq-FORBIDDEN_GAP : goal.loop-pair-preserved-then-gap_between-eq-FORBIDDEN_GAP
loop-pair-preserved-then-gap_between-eq-FORBIDDEN_GAP c =
    let i = c.loop-pair.invariant in
    let s = c.in-Some.ensures.steps in
    let g = c.if-gap_between-eq-FORBIDDEN_GAP.true in
    (s.0 ∙ i.0, judged-hit i.1 i.0 s.1.0 s.1.1 s.1.2 (sym c.gap_between.ensures ∙ g))

pub loop-pair-preserved : goal.loop-pair-preserved
loop-pair-preserved c =
    let i = c.loop-pair.invariant in
    let s = c.in-Some.ensures.steps in
    let g = c.if-gap_between-eq-FORBIDDEN_GAP.false in
    (s.0 ∙ i.0, judged-miss i.1 i.0 s.1.0 s.1.1 s.1.2 (λ e. g (c.gap_between.ensures ∙ e)))

pub returns : goal.returns
returns c =
    let s = c.in-None.ensures.steps in
    judged_all c.loop-pair.invariant.1 (omega (arith, c.loop-pair.invariant.0, s.1.0))
