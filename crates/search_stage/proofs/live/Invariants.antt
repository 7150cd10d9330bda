-- The states passed have no case.
use Prim.Native.Nat.{ℕ, ◌+◌, ◌≤◌, ◌<◌}
use lib.ListN.{get_or}
use Rattle.theory_tables.specs.Steps.{B}
use Rattle.search_stage.specs.Stage.{from_at}
use Rattle.search_stage.proofs.live.Given as goal

abbrev pub invariant-loop-t : goal.invariant-loop-t
invariant-loop-t l =
    (u : ℕ) → u < l.t → (k : ℕ) → l.low ≤ k → k < l.high → B ≤ get_or l.store (from_at l.side l.i l.s u + k) 0
