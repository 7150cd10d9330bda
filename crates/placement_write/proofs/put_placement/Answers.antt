-- Each turn puts one line more.
use Rattle.definition.specs.Placement.{text_of}
use Rattle.text_write.specs.Puts.{wrote_none}
use Rattle.placement_write.proofs.Lines.{next-room, next_wrote, all_wrote}
use Rattle.placement_write.proofs.put_placement.Goals as goal

pub loop-pose-init : goal.loop-pose-init
unfolding text_of
loop-pose-init c = wrote_none c.args.output.now 0

pub put_pose-at-requires : goal.put_pose-at-requires
put_pose-at-requires c =
    next-room c.args.placement c.loop-pose.pose-index c.loop-pose-test.true c.requires.fits c.loop-pose.invariant

pub loop-pose-preserved : goal.loop-pose-preserved
loop-pose-preserved c =
    next_wrote c.args.placement c.loop-pose.pose-index c.loop-pose-test.true c.loop-pose.invariant c.put_pose-at.ensures

pub returns : goal.returns
returns c = all_wrote c.args.placement c.loop-pose.pose-index c.loop-pose-test.false c.loop-pose.invariant
