-- After q turns the lanes are lowered to the states below q.
use Rattle.search_lanes.specs.Lanes.{Lowered}
use Rattle.search_row.specs.Words.{deck_in}
use Rattle.search_wide_end.specs.Ends.{least_states_in}
use Rattle.search_wide_end.proofs.least_states.Given as goal

abbrev pub invariant-loop-q : goal.invariant-loop-q
invariant-loop-q l =
    Lowered (least_states_in (deck_in l.row.words.now l.row.sizes) l.row.sizes.reordering l.store l.at l.q) l.lanes l.initial.acc l.acc
