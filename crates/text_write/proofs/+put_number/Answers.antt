-- A number below 10 is one byte. Of a longer one the digits before the last are put first, by the function itself for the number without its
-- last digit (the measure), and then the last.
use native.Mathlib.Omega.{arith}
use Rattle.text_laws.specs.Numbers.{one-digit}
use Rattle.text_laws.proofs.Numbers.{more-digits}
use Rattle.text_write.specs.Puts.{then, first, rest}
use Rattle.text_write.proofs.+put_number.Goals as goal

pub put_byte-requires : goal.put_byte-requires
put_byte-requires t c = rw (one-digit c.args.n (omega arith)) at c.requires

pub returns-then-n-lt10 : goal.returns-then-n-lt10
returns-then-n-lt10 t c = rw (one-digit c.args.n (omega arith)) c.put_byte.ensures

pub put_number-p-requires : goal.put_number-p-requires
put_number-p-requires t c = (omega arith, first _ (rw (more-digits c.args.n (omega arith)) at c.requires))

pub put_byte-requires-2 : goal.put_byte-requires-2
put_byte-requires-2 t c = rest (rw (more-digits c.args.n (omega arith)) at c.requires) c.put_number-p.ensures

pub returns : goal.returns
returns t c = rw (more-digits c.args.n (omega arith)) (then c.put_number-p.ensures c.put_byte-2.ensures)
