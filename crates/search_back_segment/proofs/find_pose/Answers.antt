use Prim.Native.Nat.{◌+◌}
use native.Mathlib.Omega.{arith}
use Rattle.search_row.specs.Laws.{toll-low}
use Rattle.search_back_segment.proofs.find_pose.Goals as goal

pub overflow_add-store : goal.overflow_add-store
overflow_add-store c =
    let b = c.loop-b.b in
    omega (arith, c.requires.low.word (c.args.at + b), c.toll.ensures, toll-low c.args.k b c.args.m c.args.a c.requires.cells.words)
