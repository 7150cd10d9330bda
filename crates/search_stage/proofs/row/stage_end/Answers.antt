-- A stage ends at tall cell i, or at the row's end.
use Rattle.search_row.specs.Words.{deck_in, pos_in}
use Rattle.search_stage.specs.Rows.{row-tall, row_last}
use Rattle.search_stage.proofs.row.stage_end.Goals as goal

pub returns-then-i-row : goal.returns-then-i-row
unfolding pos_in
returns-then-i-row c =
    record {
      costed = row-tall (deck_in c.args.row.words.now c.args.row.sizes) c.args.row.sizes.reordering c.args.row.sizes.talls (pos_in c.args.row.words.now)
          c.args.starts.now c.if-i-row.true c.requires.given.grounded.all c.tall_at-p.ensures
          c.segment_to.ensures;
      lent = c.segment_to.ensures.lent;
    }

pub returns : goal.returns
returns c =
    record {
      costed = row_last (deck_in c.args.row.words.now c.args.row.sizes) c.args.row.sizes.reordering c.args.row.sizes.talls (pos_in c.args.row.words.now)
          c.args.row.sizes.states c.if-i-row.false c.segment_end.ensures;
      lent = c.segment_end.ensures.lent;
    }
