-- Before each rule the earlier ones hold (Held); the first that is broken is the verdict.
use Rattle.std.proofs.Common.{rules, refl, arith}
use Rattle.score_verdict.specs.Board.{marks2, marks4, marks5, marks6, marks7, marks8}
use Rattle.score_verdict.specs.Held.{held_first, held_next, broken, last_told}
use Rattle.score_verdict.proofs.keep_rules.Goals as goal

pub returns-in_err-kept : goal.returns-in_err-kept
returns-in_err-kept c =
    let h1 = held_first c.requires in
    broken h1 c.mark_unoffered.ensures (λ k. refl) (omega arith) (search rules) c.in_err-kept.ensures

pub returns-in_err-kept-2 : goal.returns-in_err-kept-2
returns-in_err-kept-2 c =
    let h1 = held_first c.requires in
    let h2 = held_next h1 c.mark_unoffered.ensures c.in_ok-kept.ensures in
    broken h2 (marks2 c.requires c.mark_past.ensures) (λ k. refl) (omega arith) (search rules) c.in_err-kept-2.ensures

pub returns-in_err-kept-3 : goal.returns-in_err-kept-3
returns-in_err-kept-3 c =
    let h1 = held_first c.requires in
    let h2 = held_next h1 c.mark_unoffered.ensures c.in_ok-kept.ensures in
    let h3 = held_next h2 (marks2 c.requires c.mark_past.ensures) c.in_ok-kept-2.ensures in
    broken h3 c.mark_far.ensures (λ k. refl) (omega arith) (search rules) c.in_err-kept-3.ensures

pub returns-in_err-kept-4 : goal.returns-in_err-kept-4
returns-in_err-kept-4 c =
    let h1 = held_first c.requires in
    let h2 = held_next h1 c.mark_unoffered.ensures c.in_ok-kept.ensures in
    let h3 = held_next h2 (marks2 c.requires c.mark_past.ensures) c.in_ok-kept-2.ensures in
    let h4 = held_next h3 c.mark_far.ensures c.in_ok-kept-3.ensures in
    broken h4 (marks4 c.requires c.mark_overlaps.ensures) (λ k. refl) (omega arith) (search rules) c.in_err-kept-4.ensures

pub returns-in_err-kept-5 : goal.returns-in_err-kept-5
returns-in_err-kept-5 c =
    let h1 = held_first c.requires in
    let h2 = held_next h1 c.mark_unoffered.ensures c.in_ok-kept.ensures in
    let h3 = held_next h2 (marks2 c.requires c.mark_past.ensures) c.in_ok-kept-2.ensures in
    let h4 = held_next h3 c.mark_far.ensures c.in_ok-kept-3.ensures in
    let h5 = held_next h4 (marks4 c.requires c.mark_overlaps.ensures) c.in_ok-kept-4.ensures in
    broken h5 (marks5 c.requires c.mark_gaps.ensures) (λ k. refl) (omega arith) (search rules) c.in_err-kept-5.ensures

pub returns-in_err-kept-6 : goal.returns-in_err-kept-6
returns-in_err-kept-6 c =
    let h1 = held_first c.requires in
    let h2 = held_next h1 c.mark_unoffered.ensures c.in_ok-kept.ensures in
    let h3 = held_next h2 (marks2 c.requires c.mark_past.ensures) c.in_ok-kept-2.ensures in
    let h4 = held_next h3 c.mark_far.ensures c.in_ok-kept-3.ensures in
    let h5 = held_next h4 (marks4 c.requires c.mark_overlaps.ensures) c.in_ok-kept-4.ensures in
    let h6 = held_next h5 (marks5 c.requires c.mark_gaps.ensures) c.in_ok-kept-5.ensures in
    broken h6 (marks6 c.requires c.mark_places.ensures) (λ k. refl) (omega arith) (search rules) c.in_err-kept-6.ensures

pub returns-in_err-kept-7 : goal.returns-in_err-kept-7
returns-in_err-kept-7 c =
    let h1 = held_first c.requires in
    let h2 = held_next h1 c.mark_unoffered.ensures c.in_ok-kept.ensures in
    let h3 = held_next h2 (marks2 c.requires c.mark_past.ensures) c.in_ok-kept-2.ensures in
    let h4 = held_next h3 c.mark_far.ensures c.in_ok-kept-3.ensures in
    let h5 = held_next h4 (marks4 c.requires c.mark_overlaps.ensures) c.in_ok-kept-4.ensures in
    let h6 = held_next h5 (marks5 c.requires c.mark_gaps.ensures) c.in_ok-kept-5.ensures in
    let h7 = held_next h6 (marks6 c.requires c.mark_places.ensures) c.in_ok-kept-6.ensures in
    broken h7 (marks7 c.requires c.mark_passing.ensures) (λ k. refl) (omega arith) (search rules) c.in_err-kept-7.ensures

pub returns : goal.returns
returns c =
    let h1 = held_first c.requires in
    let h2 = held_next h1 c.mark_unoffered.ensures c.in_ok-kept.ensures in
    let h3 = held_next h2 (marks2 c.requires c.mark_past.ensures) c.in_ok-kept-2.ensures in
    let h4 = held_next h3 c.mark_far.ensures c.in_ok-kept-3.ensures in
    let h5 = held_next h4 (marks4 c.requires c.mark_overlaps.ensures) c.in_ok-kept-4.ensures in
    let h6 = held_next h5 (marks5 c.requires c.mark_gaps.ensures) c.in_ok-kept-5.ensures in
    let h7 = held_next h6 (marks6 c.requires c.mark_places.ensures) c.in_ok-kept-6.ensures in
    let h8 = held_next h7 (marks7 c.requires c.mark_passing.ensures) c.in_ok-kept-7.ensures in
    last_told h8 (marks8 c.requires c.mark_ends.ensures) (λ k. refl) (omega arith) c.kept-8.result c.kept-8.ensures
