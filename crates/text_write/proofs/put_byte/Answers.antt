-- One byte is stored, and the cursor stands after it.
use Rattle.text_write.specs.Puts.{wrote_one}
use Rattle.text_write.proofs.put_byte.Goals as goal

pub returns : goal.returns
returns c = wrote_one c.args.output.now c.args.at c.args.b
