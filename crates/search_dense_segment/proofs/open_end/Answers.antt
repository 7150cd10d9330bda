-- The row has no cell, or the least of the layer with all its cells.
use native.Mathlib.Omega.{arith}
use Rattle.search_buckets.specs.Ends.{states-low}
use Rattle.search_dense_layer.specs.Thin.{thin_in}
use Rattle.search_row.specs.Words.{deck_in}
use Rattle.search_dense_segment.specs.Laws.{opened-none, opened-end}
use Rattle.search_dense_segment.proofs.open_end.Goals as goal

pub returns-then-row-eq0 : goal.returns-then-row-eq0
returns-then-row-eq0 c =
    opened-none (deck_in c.args.row.words.now c.args.row.sizes) c.args.row.sizes.reordering c.args.costs c.if-row-eq0.true c.requires.room.over
    c.put_one.ensures

pub put_one-requires-2 : goal.put_one-requires-2
put_one-requires-2 c =
    let r = c.run_open.ensures in
    record {
      low = r.low;
      room = omega (arith, r.frame.long, c.requires.room.room);
      pose = omega arith;
      word = omega (
        arith,
        c.least_states-x.ensures,
        states-low (deck_in c.args.row.words.now c.args.row.sizes) c.args.row.sizes.reordering (thin_in c.run_open.new.store c.kept_at.result)
            c.args.row.sizes.states,
      );
    }

pub returns : goal.returns
returns c =
    let g = c.requires.room in
    opened-end (deck_in c.args.row.words.now c.args.row.sizes) c.args.row.sizes.reordering c.args.costs c.least_states-x.result c.kept_at.result
    (omega (arith, c.if-row-eq0.false)) g.over g.all c.kept_at.ensures c.run_open.ensures
    c.least_states-x.ensures c.put_one-2.ensures
