-- Each turn reads one more digit; every other byte decides at once whether the field is a number.
use Rattle.text_scan.proofs.Sofar.{DigitsSofar}
use Rattle.text_scan.proofs.read_number.Given as goal

abbrev pub invariant-loop-i : goal.invariant-loop-i
invariant-loop-i l = DigitsSofar l.text l.from l.i l.value
