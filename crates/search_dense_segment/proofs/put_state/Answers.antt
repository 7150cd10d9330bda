-- The state's first word is its digit, which tells the layer that it comes with.
use Prim.Native.Nat.{suc, ◌+◌, ◌≤◌, ◌<◌}
use mathlib.Core.Path.{◌≡◌, ◌∙◌}
use native.Mathlib.Omega.{arith}
use Rattle.theory_tables.specs.Steps.{offset}
use Rattle.search_lanes.specs.Laws.{state-closed}
use Rattle.search_dense_segment.specs.Laws.{comes_late}
use Rattle.search_dense_segment.proofs.put_state.Goals as goal
use Rattle.search_dense_segment.proofs.put_state.Goals.{After-word-digit}

-- the word that is read
digit : (c : After-word-digit) → ((c.word-digit.result ≡ offset c.args.row.sizes.reordering c.args.q) × (offset c.args.row.sizes.reordering c.args.q ≤ 4))
digit c =
    let q = c.args.q in
    let g = c.requires.given.grounded in
    let h = rw g.all at c.requires.state in
    (c.word-digit.ensures ∙ g.coded.digit q h, g.coded.small q h)

pub returns-then-all-digit : goal.returns-then-all-digit
returns-then-all-digit c =
    let e : c.args.tall + suc c.args.row.sizes.reordering < 1 + offset c.args.row.sizes.reordering c.args.q = omega (arith, c.if-all-digit.true, digit (goal.at-returns-then-all-digit c).After-word-digit) in
    state-closed (omega arith) c.requires.given.grounded.few c.requires.given.room.low c.fill.ensures
    (λ b l x y. comes_late c.args.row.sizes.reordering c.args.tall c.args.store.now l c.args.q b e)
