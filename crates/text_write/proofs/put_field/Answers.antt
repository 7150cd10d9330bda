-- A number and then a byte, one after another.
use Rattle.text_write.specs.Puts.{then}
use Rattle.text_write.proofs.put_field.Goals as goal

pub returns : goal.returns
returns c = then c.put_number-p.ensures c.put_byte.ensures
