-- A start that ends right of all rows that count is in none; another one is spread over the buckets of its lane.
use native.Mathlib.Omega.{arith}
use Rattle.search_buckets.specs.Sources.{pays-low, pose-pays}
use Rattle.search_wide_buckets.specs.SpreadLaws.{nine-most}
use Rattle.search_wide_first.specs.Starts.{started_in}
use Rattle.search_wide_first.proofs.from_start.Goals as goal

pub spread_lane-requires : goal.spread_lane-requires
spread_lane-requires c =
    let g = c.requires.starting in
    record {
      lent = g.lent;
      cost = omega arith;
      needed = g.needed;
      paid = pays-low g.words c.requires.paid;
      kind = omega arith;
      here = omega (arith, g.few);
      inside = omega arith;
    }

pub returns : goal.returns
returns c =
    started_in c.requires.starting.few c.spread_lane.ensures
    (λ v s i. pose-pays c.args.l v s 0 c.requires.paid c.end_row-t.ensures i (nine-most c.requires.starting.needed))
