-- One word more; it is no more than what row 0's next cell comes to.
use Prim.Native.Nat.{◌+◌, ◌*◌}
use native.Mathlib.Omega.{arith}
use Rattle.search_lanes.specs.Laws.{written-more}
use Rattle.staples_ways.specs.Ways.{ways_words}
use Rattle.staples_ways.specs.WayLaws.{found-low}
use Rattle.staples_table.proofs.put_words.Goals as goal

pub loop-u-preserved : goal.loop-u-preserved
loop-u-preserved c =
    let l = c.loop-u in
    let k = c.args.looks in
    let low = found-low (l.u * ways_words) k.numbers (k.end0 + c.args.t) k.first0 c.requires.word.low₀ in
    written-more l.u c.least_of.result l.invariant (omega arith) c.least_of.ensures (omega (arith, low))
