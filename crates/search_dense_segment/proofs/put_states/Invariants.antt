-- Each turn fills one state more; the layers, below the costs, are kept.
use Rattle.search_lanes.specs.Store.{Filled}
use Rattle.search_dense_segment.specs.Opened.{comes_in}
use Rattle.search_dense_segment.proofs.put_states.Given as goal

abbrev pub invariant-loop-q : goal.invariant-loop-q
invariant-loop-q l =
    Filled (comes_in l.row.sizes.reordering l.tall l.initial.store) 1 l.row.sizes.poses l.costs l.q l.initial.store l.store
