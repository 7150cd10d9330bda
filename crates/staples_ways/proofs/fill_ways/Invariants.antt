-- Each turn puts the way by one number more, from the greatest on.
use Prim.Native.Nat.{◌+◌}
use Rattle.search_lanes.specs.Store.{Frame, Low}
use Rattle.staples_ways.specs.Ways.{ways_words, ways_in, WaysFrom}
use Rattle.staples_ways.proofs.fill_ways.Given as goal

abbrev pub invariant-loop-v : goal.invariant-loop-v
invariant-loop-v l =
    WaysFrom (ways_in l.store l.row l.next l.last l.rests) l.next.numbers l.v l.to l.ways
    × Frame l.to (l.to + ways_words) l.fn.ways l.ways × Low l.ways
