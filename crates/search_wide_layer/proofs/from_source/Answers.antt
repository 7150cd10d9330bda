-- A state without a way lowers nothing; one that is a source stands in the row.
use Prim.Native.Nat.{ℕ, suc, ◌<◌}
use mathlib.Core.Path.{◌≡◌, refl, sym, ap, ap₂, ◌∙◌}
use native.Mathlib.Omega.{arith}
use Rattle.definition.specs.Job.{max_cells}
use Rattle.theory_tables.specs.Steps.{last_at}
use Rattle.search_lanes.specs.Store.{layer_in}
use Rattle.search_row.specs.Words.{deck_in}
use Rattle.search_row.specs.Laws.{there-size, source-size}
use Rattle.search_buckets.specs.Rows.{buckets_in, by_poses}
use Rattle.search_buckets.specs.Sources.{pays-none, state_in_lem, buckets_either}
use Rattle.search_wide_buckets.specs.Table.{FiveOrNine}
use Rattle.search_wide_buckets.specs.TableLaws.{gathered_ext}
use Rattle.search_wide_buckets.specs.SpreadLaws.{nine-most}
use Rattle.search_wide_layer.proofs.from_source.Goals as goal
use Rattle.search_wide_layer.proofs.from_source.Goals.{After-buckets_of-buckets, After-last_at-right}

-- both cells stand in the row
left : (c : After-last_at-right) → c.last_at-left.result < max_cells
left c =
    omega (
      arith,
      c.last_at-left.ensures,
      source-size c.args.row.words.now c.args.row.sizes.cells c.args.row.sizes.poses c.args.row.sizes.reordering c.args.layer.cells c.args.q c.args.p
          (c.is_way.ensures.source c.if-not-is_way.false),
      c.requires.gathering.given.grounded.size,
    )

right : (c : After-last_at-right) → c.last_at-right.result < max_cells
right c =
    omega (
      arith,
      c.last_at-right.ensures,
      there-size c.args.row.sizes.cells c.args.row.sizes.reordering (suc c.args.layer.cells) c.args.q c.requires.gathering.target.there,
      c.requires.gathering.given.grounded.size,
    )

-- how many buckets the target needs
needed : (c : After-buckets_of-buckets) → FiveOrNine c.buckets_of-buckets.result
needed c = rw c.buckets_of-buckets.ensures (buckets_either c.args.row.words.now c.last_at-right.result)

pub fill_pays-requires : goal.fill_pays-requires
fill_pays-requires c =
    let k = goal.at-fill_pays-requires c in
    record {
      cells = record {
        words = c.requires.gathering.given.grounded.words;
        left = left k.After-last_at-right;
        right = right k.After-last_at-right;
      };
      few = nine-most (needed k.After-buckets_of-buckets);
      before = pays-none _ _ _ _ refl;
    }

pub from_poses-requires : goal.from_poses-requires
from_poses-requires c =
    let g = c.requires.gathering.given in
    let k = goal.at-from_poses-requires c in
    record {
      source = record {
        words = g.grounded.words;
        low = g.low;
        table_low = c.requires.gathering.lent.low;
        table_long = c.requires.gathering.lent.long;
        narrow = g.narrow;
        room = omega (arith, g.room, g.grounded.all, g.grounded.coded.few);
        left = left k.After-last_at-right;
        right = right k.After-last_at-right;
        needed = needed k.After-buckets_of-buckets;
        paid = c.fill_pays.ensures;
      };
      offered = g.grounded.few;
      few = c.requires.gathering.few;
    }

pub returns : goal.returns
returns c =
    let z = c.args.row.sizes in
    let row = c.args.row.words.now in
    let f = λ (l : ℕ). layer_in c.args.store.now c.args.layer.at l in
    let here : c.last_at-right.result ≡ last_at z.reordering (suc c.args.layer.cells) c.args.q = omega (arith, c.last_at-right.ensures) in
    record {
      gathered = rw (c.buckets_of-buckets.ensures ∙ ap (buckets_in row) here) at (gathered_ext c.from_poses.ensures.gathered
          (λ l v t h.
          state_in_lem row (deck_in row z) z.reordering (f l) c.args.layer.cells c.args.q c.args.p v t
          (c.is_way.ensures.source c.if-not-is_way.false)
          ∙ ap₂ (λ (x y : ℕ). by_poses row x y (f l c.args.p) z.poses v t) (sym c.last_at-left.ensures) (sym here)));
      unused = c.from_poses.ensures.unused;
    }
