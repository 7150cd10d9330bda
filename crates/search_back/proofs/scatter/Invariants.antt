-- After i turns the places below i have their pose numbers.
use Prim.Native.Nat.{◌+◌, ◌≤◌}
use Rattle.search_back.specs.Scatter.{ScatteredBelow}
use Rattle.search_back.proofs.scatter.Given as goal

abbrev pub invariant-loop-i : goal.invariant-loop-i
invariant-loop-i l = (l.i ≤ l.n + 1) × ScatteredBelow l.row l.path l.i l.initial.out l.out
