-- A number of more than one digit is put after its digits before the last, by the function itself: the number falls.
use Rattle.text_write.proofs.+put_number.Given as goal

abbrev pub decreases-put_number : goal.decreases-put_number
decreases-put_number l = l.n
