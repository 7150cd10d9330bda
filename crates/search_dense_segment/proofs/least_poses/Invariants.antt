-- After a turns x is the least of the poses below a, each with what it pays as the last.
use mathlib.Core.Path.{◌≡◌}
use Rattle.search_buckets.specs.Ends.{least_poses}
use Rattle.search_row.specs.Words.{back_in}
use Rattle.search_dense_layer.specs.Thin.{thin_in}
use Rattle.search_dense_segment.proofs.least_poses.Given as goal

abbrev pub invariant-loop-a : goal.invariant-loop-a
invariant-loop-a l =
    l.x ≡ least_poses (back_in l.row l.k) (thin_in l.store l.at) l.q l.a
