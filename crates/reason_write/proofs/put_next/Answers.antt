-- A cell that is not the first comes after a comma and a space.
use Rattle.definition.specs.Texts.{bytes}
use Rattle.text_write.specs.Puts.{then}
use Rattle.reason_write.proofs.put_next.Goals as goal

pub returns : goal.returns
unfolding bytes
returns c = rw c.if-first.false (then c.put_bytes-p.ensures c.put_cell-2.ensures)
