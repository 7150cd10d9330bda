use Prim.Native.Nat.{◌+◌, ◌*◌}
use native.Mathlib.Omega.{arith}
use Rattle.search_row.specs.Words.{cell_words}
use Rattle.search_dense_first.specs.Starts.{paid-low}
use Rattle.search_dense_first.proofs.put_poses.Goals as goal

pub overflow_add-cost-in-loop-a : goal.overflow_add-cost-in-loop-a
overflow_add-cost-in-loop-a c =
    let a = c.loop-a.a in
    let words = c.requires.next.words in
    omega (arith, words.word (c.args.k * cell_words + a), c.paid.ensures, paid-low c.args.tall c.args.k a words)
