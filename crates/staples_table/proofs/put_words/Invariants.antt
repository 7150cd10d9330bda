-- Each turn writes one word more.
use Rattle.search_lanes.specs.Store.{Written}
use Rattle.staples_table.specs.Blocks.{lesser_way}
use Rattle.staples_table.proofs.put_words.Given as goal

abbrev pub invariant-loop-u : goal.invariant-loop-u
invariant-loop-u l = Written (lesser_way l.ways0 l.ways1 l.looks l.t) l.at l.u l.initial.store l.store
