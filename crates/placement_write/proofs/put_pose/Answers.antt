-- Three fields, one after another: since the whole line fits, what is left of it fits where each field ends.
use Rattle.job.specs.Value.{pose_of}
use Rattle.text_write.specs.Puts.{then}
use Rattle.placement_write.proofs.Lines.{in_fields_lem}
use Rattle.placement_write.proofs.put_pose.Goals as goal
use Rattle.placement_write.proofs.put_pose.Goals.{Start}

pub returns : goal.returns
returns c =
    rw (in_fields_lem (pose_of c.args.pose)) (then c.put_field-p.ensures (then c.put_field-q.ensures c.put_field.ensures))
