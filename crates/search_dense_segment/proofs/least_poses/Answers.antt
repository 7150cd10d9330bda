use Prim.Native.Nat.{◌+◌, ◌*◌}
use mathlib.Core.Path.{sym}
use native.Mathlib.Omega.{arith}
use Rattle.theory_tables.specs.Steps.{pose_slots}
use Rattle.search_buckets.specs.Ends.{poses-none, poses-more}
use Rattle.search_row.specs.Words.{back_in}
use Rattle.search_row.specs.Laws.{back_low}
use Rattle.search_dense_layer.specs.Thin.{thin_in}
use Rattle.search_dense_segment.proofs.least_poses.Goals as goal

pub loop-a-init : goal.loop-a-init
loop-a-init c =
    sym (poses-none (back_in c.args.row.now c.args.k) (thin_in c.args.store.now c.args.at) c.args.q)

pub overflow_add-store : goal.overflow_add-store
overflow_add-store c =
    let b = c.loop-a.a in
    omega (arith, c.requires.low.word (c.args.at + c.args.q * pose_slots + b), c.back.ensures, back_low c.args.row.now c.args.k b)

pub loop-a-preserved : goal.loop-a-preserved
loop-a-preserved c =
    let l = c.loop-a in
    omega (
      arith,
      c.min-x.ensures,
      c.back.ensures,
      l.invariant,
      poses-more (back_in c.args.row.now c.args.k) (thin_in c.args.store.now c.args.at) c.args.q l.a,
    )
