-- No pose passed has the cost wanted.
use Prim.Native.Nat.{ℕ, ◌<◌}
use mathlib.Core.Path.{◌≡◌}
use Rattle.search_back_segment.specs.Traces.{from_pose}
use Rattle.search_back_segment.proofs.find_pose.Given as goal

abbrev pub invariant-loop-b : goal.invariant-loop-b
invariant-loop-b l = (j : ℕ) → j < l.b → from_pose l.store l.row l.at l.k l.m l.a j ≡ l.want → ⊥
