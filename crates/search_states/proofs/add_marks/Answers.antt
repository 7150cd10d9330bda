use Rattle.std.proofs.Common.{sym, ◌∙◌, arith}
use Rattle.search_lanes.specs.Laws.{frame-refl}
use Rattle.search_states.specs.Upto.{skip-marks, next_marks, no_digit}
use Rattle.search_states.proofs.add_marks.Goals as goal

pub returns-then-not-is_marks : goal.returns-then-not-is_marks
returns-then-not-is_marks c =
    let t = sym c.is_marks.ensures ∙ c.if-not-is_marks.true in
    record { upto = skip-marks c.args.m c.requires.window t c.requires.upto; frame = frame-refl _ _ _ }

pub loop-d-init : goal.loop-d-init
loop-d-init c = record {
  upto = next_marks c.args.m c.requires.window (sym c.is_marks.ensures ∙ c.if-not-is_marks.false) c.requires.upto;
  frame = frame-refl _ _ _;
}

pub returns : goal.returns
returns c =
    let l = c.loop-d.invariant in
    record { upto = no_digit c.args.m c.loop-d.d _ (omega arith) l.upto; frame = l.frame }
