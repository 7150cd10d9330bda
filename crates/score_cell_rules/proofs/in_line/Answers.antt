use Rattle.std.proofs.Common.{length, arith}
use Rattle.score_order.specs.Below.{below_at}
use Rattle.score_cell_rules.proofs.in_line.Goals as goal

pub bounds-stands-cell : goal.bounds-stands-cell
bounds-stands-cell c = below_at (length c.args.stands.now) c.args.order.now c.loop-cell.cell-index c.requires (omega arith)
