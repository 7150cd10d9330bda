-- Each turn reads one more number; the rest of the line decides.
use Prim.Native.Nat.{◌-◌}
use lib.ListN.{length}
use Rattle.text_scan.proofs.Counted.{FieldsCounted}
use Rattle.text_scan.proofs.read_numbers.Given as goal

abbrev pub invariant-loop-n : goal.invariant-loop-n
invariant-loop-n l = FieldsCounted l.text l.at l.values l.count l.next

abbrev pub decreases-loop-n : goal.decreases-loop-n
decreases-loop-n l = length l.text - l.next
