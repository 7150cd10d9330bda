-- Each turn writes one state more.
use Rattle.search_dense_first.specs.Begun.{Begun}
use Rattle.search_dense_first.specs.Starts.{first_layer}
use Rattle.search_dense_first.proofs.put_layer.Given as goal

abbrev pub invariant-loop-q : goal.invariant-loop-q
invariant-loop-q l = Begun (first_layer l.row.words.now l.row.sizes l.start) l.row.sizes.poses l.q l.to l.initial.store l.store
