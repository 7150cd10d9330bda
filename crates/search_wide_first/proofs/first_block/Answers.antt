-- A state that cannot come first has no way to it.
use Prim.Native.Nat.{ℕ, suc}
use mathlib.Core.Path.{◌≡◌, sym, ap, ◌∙◌}
use mathlib.Core.Bool.{true}
use native.Mathlib.Omega.{arith}
use native.Mathlib.Numerals.{add-one}
use Rattle.theory_tables.specs.Steps.{last_at}
use Rattle.search_lanes.specs.Laws.{state-rows, state-closed}
use Rattle.search_row.specs.Words.{deck_in}
use Rattle.search_dense_first.specs.Firsts.{starts_at, after-there, after-away}
use Rattle.search_wide_first.specs.Firsts.{after_row}
use Rattle.search_wide_first.proofs.first_block.Goals as goal
use Rattle.search_wide_first.proofs.first_block.Goals.{After-last_at-k, Else-not-starts, Start}

-- past the test the state can come first
can : (c : Else-not-starts) → (starts_at c.args.row.sizes.cells c.args.row.sizes.reordering (suc c.args.to.cells)
    c.args.m c.args.q ≡ true)
can c =
    ap (λ (j : ℕ). starts_at c.args.row.sizes.cells c.args.row.sizes.reordering j c.args.m c.args.q) (sym (add-one c.args.to.cells)) ∙ sym c.starts.ensures
    ∙ c.if-not-starts.false

here : (c : After-last_at-k)
    → (c.last_at-k.result ≡ last_at
    c.args.row.sizes.reordering (suc c.args.to.cells) c.args.q)
here c = omega (arith, c.last_at-k.ensures)

pub returns-then-not-starts : goal.returns-then-not-starts
returns-then-not-starts c =
    let g = c.requires.given in
    let t = sym c.starts.ensures ∙ c.if-not-starts.true in
    let u = ap (λ (j : ℕ). starts_at c.args.row.sizes.cells c.args.row.sizes.reordering j c.args.m c.args.q) (sym (add-one c.args.to.cells)) ∙ t in
    record {
      filled = state-closed g.narrow g.grounded.few g.low c.fill.ensures
          (λ b l x y. after-away (deck_in c.args.row.words.now c.args.row.sizes) c.args.row.sizes.reordering c.args.to.cells c.args.m c.args.p l c.args.q b u);
      lent = c.requires.lent;
    }

pub returns : goal.returns
returns c =
    let e = here (goal.at-returns c).After-last_at-k in
    let w = c.first_rows.ensures in
    record {
      filled = state-rows w.written
          (λ b l x y.
          after-there (deck_in c.args.row.words.now c.args.row.sizes) c.args.row.sizes.reordering c.args.to.cells c.args.m c.args.p l c.args.q b (can (goal.at-returns c).Else-not-starts)
          ∙ ap (λ (j : ℕ). after_row c.args.row.words.now c.args.p j b l) (sym e));
      lent = w.lent;
    }
