-- A state that is no source lowers nothing; one that is a source stands in the row.
use Prim.Native.Nat.{ℕ, suc, ◌≤◌, ◌<◌}
use mathlib.Core.Path.{◌≡◌, refl, sym, ap, ap₂, ◌∙◌}
use mathlib.Core.Bool.{true}
use native.Mathlib.Omega.{arith}
use Rattle.definition.specs.Job.{max_cells}
use Rattle.theory_tables.specs.Steps.{last_at, is_source}
use Rattle.search_row.specs.Words.{deck_in}
use Rattle.search_row.specs.Laws.{there-size, source-size}
use Rattle.search_buckets.specs.Rows.{buckets_in, by_poses}
use Rattle.search_buckets.specs.Sources.{pays-none, state_in_lem, state-out}
use Rattle.search_dense_layer.specs.Thin.{thin_in}
use Rattle.search_dense_layer.specs.Laws.{buckets_few, gathered_none, gathered_ext}
use Rattle.search_dense_layer.proofs.Buckets.from_source.Goals as goal
use Rattle.search_dense_layer.proofs.Buckets.from_source.Goals.{After-buckets_of-buckets, After-last_at-m, Else-not-is_source}

-- past the test the state is a source
source : (c : Else-not-is_source) → (is_source (deck_in c.args.row.words.now c.args.row.sizes) c.args.row.sizes.reordering
    c.args.sought.layer.cells c.args.sought.state c.args.p ≡ true)
source c = sym c.is_source.ensures ∙ c.if-not-is_source.false

-- both cells stand in the row
left : (c : After-last_at-m) → c.last_at-k.result < max_cells
left c =
    let z = c.args.row.sizes in
    let s = c.args.sought in
    omega (
      arith,
      c.last_at-k.ensures,
      source-size c.args.row.words.now z.cells z.poses z.reordering s.layer.cells s.state c.args.p
          (sym c.is_source.ensures ∙ c.if-not-is_source.false),
      c.requires.gathering.sought.given.grounded.size,
    )

here : (c : After-last_at-m)
    → c.last_at-m.result ≡ last_at c.args.row.sizes.reordering (suc c.args.sought.layer.cells) c.args.sought.state
here c = omega (arith, c.last_at-m.ensures)

right : (c : After-last_at-m) → c.last_at-m.result < max_cells
right c =
    let z = c.args.row.sizes in
    let s = c.args.sought in
    let g = c.requires.gathering.sought in
    omega (
      arith,
      here c,
      there-size z.cells z.reordering (suc s.layer.cells) s.state g.target.there,
      g.given.grounded.size,
    )

few : (c : After-buckets_of-buckets) → (5 ≤ c.buckets_of-buckets.result) × (c.buckets_of-buckets.result ≤ 9)
few c =
    let f = buckets_few c.args.row.words.now c.last_at-m.result in
    (omega (arith, c.buckets_of-buckets.ensures), omega (arith, c.buckets_of-buckets.ensures))

pub returns-then-not-is_source : goal.returns-then-not-is_source
returns-then-not-is_source c =
    let row = c.args.row.words.now in
    let z = c.args.row.sizes in
    let s = c.args.sought in
    let f = thin_in c.args.store.now s.layer.at in
    let away = sym c.is_source.ensures ∙ c.if-not-is_source.true in
    gathered_none (buckets_in row (last_at z.reordering (suc s.layer.cells) s.state)) c.requires.gathering.arrays
    (λ v t h. omega (
      arith,
      state-out row (deck_in row z) z.reordering f s.layer.cells s.state c.args.p v t away,
    ))

pub fill_pays-requires : goal.fill_pays-requires
fill_pays-requires c =
    let at = goal.at-fill_pays-requires c in
    record {
      cells = record {
        words = c.requires.gathering.sought.given.grounded.words;
        left = left at.After-last_at-m;
        right = right at.After-last_at-m;
      };
      few = (few at.After-buckets_of-buckets).1;
      before = pays-none _ _ _ _ refl;
    }

pub from_poses-requires : goal.from_poses-requires
from_poses-requires c =
    let g = c.requires.gathering.sought.given in
    let at = goal.at-from_poses-requires c in
    let f = few at.After-buckets_of-buckets in
    record {
      arrays = c.requires.gathering.arrays;
      source = record {
        words = g.grounded.words;
        low = g.low;
        room = omega (arith, g.room, g.grounded.all, g.grounded.coded.few);
        left = left at.After-last_at-m;
        right = right at.After-last_at-m;
      };
      paid = c.fill_pays.ensures;
      five = f.0;
      nine = f.1;
      few = g.grounded.few;
    }

pub returns : goal.returns
returns c =
    let row = c.args.row.words.now in
    let z = c.args.row.sizes in
    let s = c.args.sought in
    let D = deck_in row z in
    let f = thin_in c.args.store.now s.layer.at in
    let at = goal.at-returns c in
    let m = here at.After-last_at-m in
    let e = c.buckets_of-buckets.ensures ∙ ap (buckets_in row) m in
    let w = gathered_ext c.from_poses.ensures (few at.After-buckets_of-buckets).0
    (λ v t h.
    state_in_lem row D z.reordering f s.layer.cells s.state c.args.p v t (source at.Else-not-is_source)
    ∙ ap₂ (λ (x y : ℕ). by_poses row x y (f c.args.p) z.poses v t) (sym c.last_at-k.ensures) (sym m)) in
    rw e at w
