use mathlib.Core.Path.{◌≡◌}
use native.Mathlib.Omega.{arith}
use Rattle.placement_read.proofs.Kept.{grow}
use Rattle.placement_read.proofs.Sofar.{first_poses, start, step, bad, surplus, complete, at-fault}
use Rattle.placement_read.proofs.read_placement.Goals as goal

pub loop-n-init : goal.loop-n-init
loop-n-init c = start c.args.text.now c.args.due c.empty-placement.result c.empty-placement.ensures

pub returns-in_default : goal.returns-in_default
returns-in_default c =
    let h = c.loop-n.invariant in
    at-fault c.args.text.now c.args.due c.loop-n.n c.faulty.result (bad h c.loop-n-test.true c.in_default.ensures) h.low c.faulty.ensures

pub loop-n-preserved : goal.loop-n-preserved
loop-n-preserved c =
    let h = c.loop-n.invariant in
    let f = c.in-Some.ensures in
    step h c.loop-n-test.true f (grow (first_poses c.loop-n.placement c.loop-n.n) c.in-Some.line.pose h.kept (omega arith) f.small)

pub returns-then-at-text : goal.returns-then-at-text
returns-then-at-text c =
    at-fault c.args.text.now c.args.due c.args.due c.faulty-then-at-text.result
    (surplus c.loop-n.invariant c.loop-n-test.false (omega arith))
    (omega arith)
    c.faulty-then-at-text.ensures

pub returns : goal.returns
returns c =
    let e : c.loop-n.n ≡ c.args.due = omega arith in
    rw e at (complete c.loop-n.invariant c.loop-n-test.false (omega arith))
