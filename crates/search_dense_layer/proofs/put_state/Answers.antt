-- A state that is not there has no way to it.
use Prim.Native.Nat.{ℕ}
use mathlib.Core.Path.{sym, ap, ◌∙◌}
use native.Mathlib.Omega.{arith}
use native.Mathlib.Numerals.{add-one}
use Rattle.search_row.specs.Words.{deck_in, there_in}
use Rattle.search_buckets.specs.Next.{next-away}
use Rattle.search_dense_layer.specs.Thin.{thin_in}
use Rattle.search_dense_layer.specs.Found.{put-words}
use Rattle.search_dense_layer.proofs.put_state.Goals as goal

pub returns-then-not-is_there : goal.returns-then-not-is_there
returns-then-not-is_there c =
    let D = deck_in c.args.row.words.now c.args.row.sizes in
    let t = sym c.is_there.ensures ∙ c.if-not-is_there.true in
    let u = ap (λ (j : ℕ). there_in c.args.row.sizes.cells c.args.row.sizes.reordering j c.args.q) (sym (add-one c.args.layer.cells)) ∙ t in
    put-words D c.args.row.sizes.reordering c.args.layer.cells c.args.layer.at c.args.q c.fill.ensures (omega (arith, c.requires.given.grounded.few))
    (omega arith)
    (λ b l. next-away D c.args.row.sizes.reordering (thin_in c.args.store.now c.args.layer.at) c.args.layer.cells c.args.q b u)
