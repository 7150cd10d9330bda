-- x is at most the words before, since common bits are at most each number that has them.
use Rattle.std.proofs.Common.{ℕ, ◌+◌, ◌≤◌, ◌<◌, get_or}
use Rattle.search_lanes.proofs.common.Given as goal

abbrev pub invariant-loop-word : goal.invariant-loop-word
invariant-loop-word l = (k : ℕ) → k < l.word-index → l.x ≤ get_or l.row (l.at + k) 0
