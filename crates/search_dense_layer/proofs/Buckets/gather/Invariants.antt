-- After p turns the states below p are gathered.
use Prim.Native.Nat.{suc}
use Rattle.theory_tables.specs.Steps.{last_at}
use Rattle.search_row.specs.Words.{deck_in}
use Rattle.search_buckets.specs.Rows.{buckets_in, by_states}
use Rattle.search_dense_layer.specs.Thin.{thin_in, ThinGathered}
use Rattle.search_dense_layer.proofs.Buckets.gather.Given as goal

abbrev pub invariant-loop-p : goal.invariant-loop-p
invariant-loop-p l =
    let words = l.row.words.now in
    let z = l.row.sizes in
    let i = l.sought.layer.cells in
    ThinGathered (by_states words (deck_in words z) z.reordering (thin_in l.store l.sought.layer.at) i l.sought.state l.p)
    (buckets_in words (last_at z.reordering (suc i) l.sought.state)) l.initial.self l.self
