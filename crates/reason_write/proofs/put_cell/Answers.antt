-- The word, then the digits.
use Rattle.definition.specs.Texts.{bytes}
use Rattle.text_write.specs.Puts.{then}
use Rattle.reason_write.proofs.put_cell.Goals as goal

pub returns : goal.returns
unfolding bytes
returns c = then c.put_bytes-p.ensures c.put_number.ensures
