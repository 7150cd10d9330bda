use Rattle.std.proofs.Common.{◌≡◌, ◌<◌, length, replicate, arith, rules}
use Rattle.job.specs.Value.{job_of}
use Rattle.search_row_fill.specs.Filled.{side_of, filled_none, filled-value, ranged-at}
use Rattle.search_row_fill.proofs.fill_cells.Goals as goal

pub loop-k-init : goal.loop-k-init
loop-k-init c =
    let e : c.fill.new.self ≡ replicate (length c.args.row.now) 0 = search rules in
    rw e (filled_none (job_of c.args.job) (side_of c.args.side) c.requires.accepted.sound _ c.requires.long)

pub add_cell-n-requires : goal.add_cell-n-requires
add_cell-n-requires c =
    let f = c.loop-k.invariant in
    let g = c.loop-k-test.true in
    let h : c.loop-k.k < length (job_of c.args.job).cells = omega (arith, c.requires.accepted.many) in
    record {
      put = record {
        ranged = ranged-at c.args.job c.loop-k.k g h c.requires.accepted.sound;
        either = c.requires.either;
        few = omega (arith, c.requires.accepted.few);
      };
      few = omega (arith, c.requires.accepted.few);
      long = omega arith;
      low = f.low;
    }

pub loop-k-preserved : goal.loop-k-preserved
loop-k-preserved c =
    let l = c.loop-k in
    let h : l.k < length (job_of c.args.job).cells = omega (arith, c.requires.accepted.many) in
    filled-value c.args.job l.k c.loop-k-test.true h c.args.side c.requires.either l.invariant c.add_cell-n.ensures
