-- The loop's invariant: line i begins at the cursor, and i is not past line n.
use Prim.Native.Nat.{◌-◌, ◌≤◌}
use Rattle.op_fault.proofs.Lines.{From}
use Rattle.op_fault.proofs.line_span.Given as goal

abbrev pub invariant-loop-i : goal.invariant-loop-i
invariant-loop-i l = (l.i - 1 ≤ l.n - 1) × From l.text l.i l.at
