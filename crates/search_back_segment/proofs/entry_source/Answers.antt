-- An entry below B is its own cost and what it was reached by: the rest is what a source must have.
use Prim.Native.Nat.{ℕ, suc, ◌+◌, ◌*◌, ◌<◌}
use mathlib.Core.Path.{◌≡◌, ap, ◌∙◌}
use native.Mathlib.Omega.{arith}
use Rattle.std.specs.Prelude.{List}
use lib.ListN.{get_or}
use Rattle.search_row.specs.declared.Sizes.{Sizes}
use Rattle.theory_tables.specs.Steps.{last_at, reached, pose_slots}
use Rattle.search_row.specs.Words.{deck_in, cell_words}
use Rattle.search_row.specs.Laws.{there-size}
use Rattle.search_dense_layer.specs.Kept.{kept_in}
use Rattle.search_back_segment.specs.Sources.{entry-parts, entry-source}
use Rattle.search_back_segment.specs.Traces.{Entry}
use Rattle.search_back_segment.proofs.entry_source.Goals as goal
use Rattle.search_back_segment.proofs.entry_source.Goals.{After-kept_at}

-- the cell is in the row
inside : {row st : List ℕ} {z : Sizes} {i q a : ℕ} → Entry row st z i q a → last_at z.reordering (suc i) q < z.cells
inside {row} {st} {z} {i} {q} {a} g =
    there-size z.cells z.reordering (suc i) q (entry-parts (deck_in row z) z.reordering st i q a g.next g.cost).0

-- the cost read is the own cost read and what the entry was reached by
parts : (c : After-kept_at) → (get_or c.args.store.now (c.kept_at.result + c.args.q * pose_slots + c.args.a) 0 ≡ kept_in c.args.store.now (suc c.args.i) c.args.q c.args.a)
    × (kept_in c.args.store.now (suc c.args.i) c.args.q c.args.a
    ≡ get_or c.args.row.words.now (c.last_at.result * cell_words + c.args.a) 0
    + reached (deck_in c.args.row.words.now c.args.row.sizes) c.args.row.sizes.reordering (kept_in c.args.store.now c.args.i) c.args.i c.args.q c.args.a)
parts c =
    let a = c.args in
    let D = deck_in a.row.words.now a.row.sizes in
    let w = entry-parts D a.row.sizes.reordering a.store.now a.i a.q a.a c.requires.next c.requires.cost in
    let e : last_at a.row.sizes.reordering (suc a.i) a.q ≡ c.last_at.result = omega (arith, c.last_at.ensures) in (
      ap (λ (j : ℕ). get_or a.store.now j 0) (omega (arith, c.kept_at.ensures)),
      w.1 ∙ ap (λ (p : ℕ). get_or a.row.words.now (p * cell_words + a.a) 0
          + reached D a.row.sizes.reordering (kept_in a.store.now a.i) a.i a.q a.a) e,
    )

pub bounds-row-last_at : goal.bounds-row-last_at
bounds-row-last_at c =
    omega (arith, inside c.requires, c.requires.back.grounded.size, c.requires.back.grounded.few, c.requires.pose, c.requires.back.grounded.words.long)

pub overflow_sub-cost : goal.overflow_sub-cost
overflow_sub-cost c =
    omega (arith, parts (goal.at-overflow_sub-cost c).After-kept_at)

pub find_source-requires : goal.find_source-requires
find_source-requires c =
    let p = parts (goal.at-find_source-requires c).After-kept_at in
    record {
      target = record {
        back = c.requires.back;
        last = c.requires.last;
        state = c.requires.state;
        cell = inside c.requires;
        pose = c.requires.pose;
        below = omega (arith, c.requires.cost);
      };
      cost = omega arith;
    }

pub returns : goal.returns
returns c =
    let a = c.args in
    let p = parts (goal.at-returns c).After-kept_at in
    let e : c.last_at.result ≡ last_at a.row.sizes.reordering (suc a.i) a.q = omega (arith, c.last_at.ensures) in
    let o = ap (λ (p : ℕ). get_or a.row.words.now (p * cell_words + a.a) 0) e in
    entry-source (deck_in a.row.words.now a.row.sizes) a.row.sizes.reordering a.store.now a.i a.q a.a c.find_source.ensures (omega arith)
