-- A source that is NONE, or that ends right of all rows, lowers nothing; another one is spread over the buckets.
use Prim.Native.Nat.{◌+◌}
use native.Mathlib.Omega.{arith}
use lib.ListN.{get_or}
use Rattle.search_buckets.specs.Sources.{pays-low}
use Rattle.search_dense_layer.specs.Laws.{gathered-pose, pays-free}
use Rattle.search_dense_layer.proofs.Buckets.from_pose.Goals as goal

pub spread-requires : goal.spread-requires
spread-requires c =
    let g = c.requires in
    record {
      arrays = g.arrays;
      cost = omega (arith, c.if-x-ge-NONE.false);
      paid = pays-low g.source.words g.paid;
      free = pays-free _ g.paid g.five (omega arith);
      kind = omega arith;
      here = omega (arith, c.if-t-ge-BUCKET_ROWS.false);
      five = g.five;
      nine = g.nine;
    }

pub returns : goal.returns
returns c =
    gathered-pose c.args.b c.end_row-t.result (get_or c.args.store.now (c.args.source.at + c.args.b) 0) c.requires.paid c.end_row-t.ensures
    c.requires.five
    c.requires.nine c.spread.ensures
