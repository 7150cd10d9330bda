-- Where no cell is to come the block is all zero.
use native.Mathlib.Omega.{arith}
use Rattle.staples_table.specs.Blocked.{block-end}
use Rattle.staples_table.proofs.fill_block.Goals as goal

pub returns-then-p-q : goal.returns-then-p-q
returns-then-p-q c = block-end (omega (arith, c.requires.rows.first.near)) c.if-p-q.true c.fill.ensures
