-- After b turns the poses below b are gathered.
use Rattle.search_wide_buckets.specs.Table.{GatheredIf, poses_in}
use Rattle.search_wide_buckets.proofs.from_poses.Given as goal

abbrev pub invariant-loop-b : goal.invariant-loop-b
invariant-loop-b l =
    let s = l.source in
    GatheredIf l.used (poses_in l.store l.row s.at s.left s.right l.b) l.rows s.buckets l.lanes l.initial.table l.table
