use Rattle.std.proofs.Common.{arith}
use Rattle.search_lanes.specs.Laws.{frame-refl}
use Rattle.search_states.specs.Upto.{upto-none, upto_all, no-marks, marks-end}
use Rattle.search_states.proofs.fill_states.Goals as goal

pub loop-m-init : goal.loop-m-init
loop-m-init c = record { upto = upto-none _ _ c.requires; frame = frame-refl _ _ _ }

pub returns : goal.returns
returns c =
    let l = c.loop-m.invariant in
    upto_all c.requires.reorder (no-marks c.loop-m.m (omega (arith, marks-end c.args.r c.requires.reorder)) l.upto) l.frame
