-- Both rows of the job's cells are ordered.
use Rattle.std.proofs.Common.{◌∙◌, sym}
use Rattle.score_order.specs.Arrays.{zeros_room}
use Rattle.score_verdict.specs.Board.{row-order}
use Rattle.score_verdict.proofs.judge.Goals as goal

pub order_row-start0-requires : goal.order_row-start0-requires
order_row-start0-requires c = record { few = c.stands_of-all.ensures.flat.few; room = zeros_room }

pub order_row-start1-requires : goal.order_row-start1-requires
order_row-start1-requires c = record { few = c.stands_of-all.ensures.flat.few; room = zeros_room }

pub keep_rules-requires : goal.keep_rules-requires
keep_rules-requires c =
    record {
      given = c.requires;
      flat = c.stands_of-all.ensures.flat;
      count = sym c.stands_of-all.ensures.flat.count ∙ c.requires.ready.accepted.many;
      row0 = row-order c.order_row-start0.ensures;
      row1 = row-order c.order_row-start1.ensures;
    }
