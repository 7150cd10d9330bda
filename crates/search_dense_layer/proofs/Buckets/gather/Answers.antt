use Prim.Native.Nat.{suc}
use native.Mathlib.Omega.{arith}
use Rattle.theory_tables.specs.Steps.{last_at}
use Rattle.search_row.specs.Words.{deck_in}
use Rattle.search_buckets.specs.Rows.{buckets_in}
use Rattle.search_buckets.specs.Sources.{states-none, states-more}
use Rattle.search_dense_layer.specs.Thin.{thin_in}
use Rattle.search_dense_layer.specs.Laws.{gathered_none, gathered-join}
use Rattle.search_dense_layer.proofs.Buckets.gather.Goals as goal

pub loop-p-init : goal.loop-p-init
loop-p-init c =
    let row = c.args.row.words.now in
    let z = c.args.row.sizes in
    let s = c.args.sought in
    gathered_none (buckets_in row (last_at z.reordering (suc s.layer.cells) s.state)) c.requires.arrays
    (λ v t h. omega (
      arith,
      states-none row (deck_in row z) z.reordering (thin_in c.args.store.now s.layer.at) s.layer.cells s.state v t,
    ))

pub loop-p-preserved : goal.loop-p-preserved
loop-p-preserved c =
    let row = c.args.row.words.now in
    let z = c.args.row.sizes in
    let s = c.args.sought in
    gathered-join c.loop-p.invariant c.from_source.ensures
    (states-more row (deck_in row z) z.reordering (thin_in c.args.store.now s.layer.at) s.layer.cells s.state c.loop-p.p)
