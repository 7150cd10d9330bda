-- Without a way nothing leads to the state. Else the sources are gathered into a cleared table; if none lowered it, nothing leads to the state; else
-- each pose that may be offered finds there what it can be reached for, and nothing leads to the others.
use Prim.Native.Nat.{ℕ, suc, ◌+◌, ◌-◌, ◌≤◌, ◌<◌}
use mathlib.Core.Path.{◌≡◌, refl, sym, ap, ◌∙◌}
use native.Mathlib.Omega.{arith}
use native.Mathlib.Decide.{dec_lt}
use mathlib.Core.List.{List}
use Rattle.definition.specs.Job.{max_cells}
use Rattle.search_store.specs.Map.{max_poses}
use Rattle.theory_tables.specs.Steps.{B, last_at}
use Rattle.search_lanes.specs.Store.{layer_in}
use Rattle.search_lanes.specs.Laws.{said-join, state-rows, state-closed}
use Rattle.search_row.specs.Words.{deck_in}
use Rattle.search_row.specs.Laws.{there-size}
use Rattle.search_buckets.specs.Rows.{rows_of, buckets_in, by_states}
use Rattle.search_buckets.specs.Sources.{states-low, states_twin, buckets_either, buckets_last}
use Rattle.search_wide_buckets.specs.Table.{FiveOrNine, Gathered, states_in, TableReady}
use Rattle.search_wide_buckets.specs.TableLaws.{ready, unused}
use Rattle.search_wide_buckets.specs.SpreadLaws.{five-least, nine-most}
use Rattle.search_buckets.specs.Next.{next-found, next-none, next-alone, next-unoffered}
use Rattle.search_wide_layer.specs.declared.Block.{Block}
use Rattle.search_row.specs.declared.Sizes.{Sizes}
use Rattle.search_wide_layer.specs.Loops.{next_from, buckets_for}
use Rattle.search_wide_layer.proofs.target_rows.Goals as goal
use Rattle.search_wide_layer.proofs.target_rows.Goals.{After-buckets_of-buckets, After-gather, After-last_at-m, After-poses_of-poses, After-run_up}

-- the buckets of all sources of state q
abbrev bucket : List ℕ → List ℕ → Sizes → Block → ℕ → ℕ → ℕ → ℕ → ℕ
bucket row st z layer q = states_in st row (deck_in row z) z.reordering layer.at layer.cells q z.states

low : (row st : List ℕ) (z : Sizes) (layer : Block) (q l v t : ℕ) → bucket row st z layer q l v t ≤ B
low row st z layer q l v t =
    states-low row (deck_in row z) z.reordering (layer_in st layer.at l) layer.cells q z.states v t

-- how many the target needs
needed : (row : List ℕ) (z : Sizes) (layer : Block) (q : ℕ) {m buckets : ℕ} → m ≡ last_at z.reordering (layer.cells + 1) q
    → buckets ≡ buckets_in row m → buckets ≡ buckets_for row z layer q
needed row z layer q e f = f ∙ ap (buckets_in row) (omega (arith, e))

-- the last four are those of gaps 2 and 3
last : (row st : List ℕ) (z : Sizes) (layer : Block) (q : ℕ) {buckets : ℕ} → buckets ≡ buckets_for row z layer q
    → (l v t : ℕ) → v < 4 → bucket row st z layer q l (buckets - 4 + v) t ≡ bucket row st z layer q l (5 + v) t
last row st z layer q e l v t h =
    let D = deck_in row z in
    let f = layer_in st layer.at l in
    rw e (buckets_last (λ (w : ℕ). by_states row D z.reordering f layer.cells q z.states w t) row
    (last_at z.reordering (suc layer.cells) q) v
    (λ g. states_twin row D z.reordering f layer.cells q z.states v t g h))

inside : (c : After-last_at-m) → c.last_at-m.result < max_cells
inside c =
    omega (
      arith,
      c.last_at-m.ensures,
      there-size c.args.row.sizes.cells c.args.row.sizes.reordering (suc c.args.layer.cells) c.args.q c.requires.target.there,
      c.requires.stepping.given.grounded.size,
    )

either : (c : After-buckets_of-buckets) → FiveOrNine c.buckets_of-buckets.result
either c = rw c.buckets_of-buckets.ensures (buckets_either c.args.row.words.now c.last_at-m.result)

-- how many of its poses look at the table
looking : (c : After-poses_of-poses) → c.poses_of-poses.result ≤ max_poses
looking c = omega (arith, c.poses_of-poses.ensures.most, c.requires.stepping.given.grounded.few)

-- the sources are gathered in the rows that these poses look at
all : (c : After-gather) → Gathered (bucket c.args.row.words.now c.args.store.now c.args.row.sizes c.args.layer c.args.q)
    (rows_of c.poses_of-poses.result) c.buckets_of-buckets.result c.args.layer.lanes c.reset.new.table c.gather.new.table
all c =
    rw (
      c.rows_of-rows.ensures,
      sym (needed c.args.row.words.now c.args.row.sizes c.args.layer c.args.q c.last_at-m.ensures
          c.buckets_of-buckets.ensures),
    ) at c.gather.ensures.gathered

pub returns-then-not-has_way : goal.returns-then-not-has_way
returns-then-not-has_way c =
    let g = c.requires.stepping.given in
    record {
      filled = state-closed g.narrow g.grounded.few g.low c.fill.ensures
          (λ b l p i.
          next-alone c.args.row.words.now c.args.row.sizes.cells c.args.row.sizes.poses c.args.row.sizes.reordering (layer_in c.args.store.now c.args.layer.at l) c.args.layer.cells
          c.args.q b
          c.requires.target.there g.grounded.all
          (λ v t m n. c.has_way.ensures c.if-not-has_way.true m n l v t));
      lent = c.requires.stepping.lent;
    }

pub reset-requires : goal.reset-requires
reset-requires c =
    record {
      table_for = record { lent = c.requires.stepping.lent; few = looking (goal.at-reset-requires c).After-poses_of-poses; narrow = c.requires.stepping.given.narrow };
      most = nine-most (either (goal.at-reset-requires c).After-buckets_of-buckets);
    }

pub returns-then-not-gather : goal.returns-then-not-gather
returns-then-not-gather c =
    let g = c.requires.stepping.given in
    let w = c.gather.ensures.gathered in
    let k = goal.at-returns-then-not-gather c in
    let z = c.args.row.sizes in
    let row = c.args.row.words.now in
    let n = either k.After-buckets_of-buckets in
    let f = λ (l : ℕ). layer_in c.args.store.now c.args.layer.at l in
    record {
      filled = state-closed g.narrow g.grounded.few g.low c.fill-then-not-gather.ensures
          (λ b l p i. elim (dec_lt b c.poses_of-poses.result) [
            | no h ↦ next-unoffered row z.cells z.poses z.reordering (f l) c.args.layer.cells c.args.q b c.requires.target.there
                (omega (arith, c.last_at-m.ensures)) (c.poses_of-poses.ensures.none b (omega arith) p)
            | yes h ↦ next-none row z.cells z.poses z.reordering (f l) c.args.layer.cells c.args.q b c.requires.target.there g.grounded.all
                (unused (looking k.After-poses_of-poses) (five-least n) (nine-most n)
                (low row c.args.store.now z c.args.layer c.args.q)
                (last row c.args.store.now z c.args.layer c.args.q
                (needed row z c.args.layer c.args.q c.last_at-m.ensures c.buckets_of-buckets.ensures))
                c.reset.ensures (all k.After-gather) (c.gather.ensures.unused c.if-not-gather.true) b l h i)
          ]);
      lent = record { long = w.long ∙ c.reset.ensures.long; low = w.low };
    }

-- the table once bucket 0 ran up
table : (c : After-run_up) → c.poses_of-poses.result ≤ max_poses → FiveOrNine c.buckets_of-buckets.result
    → Gathered (bucket c.args.row.words.now c.args.store.now c.args.row.sizes c.args.layer c.args.q) (rows_of c.poses_of-poses.result)
    c.buckets_of-buckets.result c.args.layer.lanes c.reset.new.table c.gather.new.table
    → TableReady (bucket c.args.row.words.now c.args.store.now c.args.row.sizes c.args.layer c.args.q)
    c.poses_of-poses.result c.buckets_of-buckets.result c.args.layer.lanes c.run_up.new.table
table c h n a =
    ready h (five-least n) (nine-most n) (low c.args.row.words.now c.args.store.now c.args.row.sizes c.args.layer c.args.q)
    (last c.args.row.words.now c.args.store.now c.args.row.sizes c.args.layer c.args.q
    (needed c.args.row.words.now c.args.row.sizes c.args.layer c.args.q c.last_at-m.ensures c.buckets_of-buckets.ensures))
    c.reset.ensures a c.run_up.ensures

pub put_rows-requires : goal.put_rows-requires
put_rows-requires c =
    let g = c.requires.stepping.given in
    let k = goal.at-put_rows-requires c in
    let n = either k.After-buckets_of-buckets in
    let t = table k.After-run_up (looking k.After-poses_of-poses) n (all k.After-gather) in
    record {
      rows = record {
        words = g.grounded.words;
        low = g.low;
        table_low = t.low;
        table_long = t.long;
        narrow = g.narrow;
        cell = inside k.After-last_at-m;
        least = five-least n;
        most = nine-most n;
      };
      room = omega (arith, c.requires.stepping.beside.room, c.requires.target.state, g.grounded.coded.few);
      few = looking k.After-poses_of-poses;
    }

pub returns : goal.returns
returns c =
    let g = c.requires.stepping.given in
    let k = goal.at-returns c in
    let t = table k.After-run_up (looking k.After-poses_of-poses) (either k.After-buckets_of-buckets) (all k.After-gather) in
    let z = c.args.row.sizes in
    let row = c.args.row.words.now in
    let f = λ (l : ℕ). layer_in c.args.store.now c.args.layer.at l in
    let e : c.last_at-m.result ≡ last_at z.reordering (suc c.args.layer.cells) c.args.q = omega (arith, c.last_at-m.ensures) in
    record {
      filled = state-rows
          (said-join {h = λ b l. next_from (deck_in row z) z.reordering c.args.store.now c.args.layer.at c.args.layer.cells l c.args.q b}
          g.narrow c.poses_of-poses.ensures.most g.grounded.few c.put_rows.ensures c.fill-2.ensures
          (λ b l p i. next-found row z.cells z.poses z.reordering (f l) c.args.layer.cells c.args.q b
          c.requires.target.there g.grounded.all e (t.right b l p i))
          (λ b l p i j. next-unoffered row z.cells z.poses z.reordering (f l) c.args.layer.cells c.args.q b
          c.requires.target.there e (c.poses_of-poses.ensures.none b p i)))
          (λ b l p i. refl);
      lent = record { long = t.long; low = t.low };
    }
