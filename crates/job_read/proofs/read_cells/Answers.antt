use mathlib.Core.Path.{refl, ap}
use native.Mathlib.Omega.{arith}
use lib.ListN.{length}
use Rattle.job.specs.declared.Job.{Job}
use Rattle.job_read.proofs.Far.{far_none, far-tall, far-more, far-refused, far-out}
use Rattle.job_read.proofs.read_cells.Goals as goal

pub loop-at-init : goal.loop-at-init
loop-at-init c = (
  far_none c.args.text.now c.args.from c.args.header c.empty-job.result.cells c.requires.within
      (ap (λ (j : Job). length j.cells) c.empty-job.ensures),
  refl,
)

pub returns-in-Err : goal.returns-in-Err
returns-in-Err c = rw c.at.ensures (far-refused c.loop-at.invariant.0 c.loop-at-test.true c.in-Err.fault c.in-Err.ensures)

pub tally_with-t-requires : goal.tally_with-t-requires
tally_with-t-requires c =
    let r = c.in-Ok.ensures in
    record { count = r.room; tall = omega (arith, r.room, far-tall c.loop-at.invariant.0) }

pub loop-at-preserved : goal.loop-at-preserved
loop-at-preserved c =
    let s = c.loop-at.invariant in
    (rw c.tally_with-t.ensures (far-more s.0 c.loop-at-test.true c.in-Ok.l c.in-Ok.ensures), s.1)

pub returns : goal.returns
returns c = rw c.loop-at.invariant.1 (far-out c.loop-at.invariant.0 c.loop-at-test.false c.requires.sound)
