-- Laws of a stage traced back: from its first layer to what the traceback leaves, by whether it ends at a tall cell.
use Prim.Native.Nat.{ℕ, zero, suc, ◌+◌, ◌*◌, ◌-◌, ◌≤◌, ◌<◌}
use Rattle.std.proofs.Math.Path.{◌≡◌, refl, ap, subst}
use Rattle.std.proofs.Common.{sym, ◌∙◌, arith, lt-ltb, le-ltb, leb-true}
use Rattle.std.specs.Prelude.{Bool, ◌&&◌, List, length, ltb}
use Rattle.std.proofs.Math.Bool.{true, false, cond}
use Rattle.std.proofs.Math.Decide.{dec_lt}
use Rattle.std.proofs.Math.ListN.{get_or}
use Rattle.std.proofs.Math.Dec.{leb, eqb}
use Rattle.definition.specs.Job.{max_cells}
use Rattle.search_store.specs.Map.{kept_at, kept_from, pages_from, max_kept}
use Rattle.search_row.specs.declared.Sizes.{Sizes}
use Rattle.theory_tables.specs.Steps.{B, Deck, Layer, state_count, offset, marks, pose_slots}
use Rattle.theory_tables.specs.Steps.{first_after, first_open, layers, cost_to, cost_end}
use Rattle.theory_tables.specs.Stages.{placed_with, stage_end}
use Rattle.theory_tables.specs.Back.{SegmentTraced, EndTraced}
use Rattle.theory_tables.specs.Notes.{NotedBy}
use Rattle.search_lanes.specs.Laws.{frame-refl, frame-join}
use Rattle.search_lanes.specs.Store.{Frame, Low}
use Rattle.search_row.specs.Words.{deck_in, pos_in}
use Rattle.search_dense_first.specs.Begun.{Begun}
use Rattle.search_dense_layer.specs.Kept.{kept_in, KeptLayers, Segment, SegmentKept}
use Rattle.search_dense_layer.specs.KeptLaws.{kept_ext, kept-fewer}
use Rattle.search_back_segment.specs.Traces.{Back, SegmentTrace, End, SegmentTraceDone, EndDone, word_at}
use Rattle.search_back_segment.specs.Steps.{end_full}
use Rattle.search_back_stage.specs.Rows.{start_cells, start_layer, start_end, cost_from}
use Rattle.search_back_stage.specs.Rows.{end_place, StartState, Stage, FirstKept, StageNoted}

-- ---- the start

-- the tall cells before it stand in the row
pub start-tall : {row : List ℕ} {z : Sizes} {I s : ℕ} → StartState row z I s → (J : ℕ) → J < I → pos_in row J < max_cells
start-tall g j h = omega (arith, g.given.inside j (omega (arith, g.stage)), g.given.grounded.size)

pub start-some : (R : ℕ) (pos : ℕ → ℕ) (I s : ℕ) → 0 < start_cells R pos I s
unfolding start_cells
start-some R pos zero s = omega arith
start-some R pos (suc I) s = omega arith

pub start-one : (R : ℕ) (pos : ℕ → ℕ) (I s : ℕ) → I ≡ 0 → 1 ≡ start_cells R pos I s
unfolding start_cells
start-one R pos I s e = ap (λ (k : ℕ). start_cells R pos k s) (sym e)

pub start-count : (R : ℕ) (pos : ℕ → ℕ) (I J s : ℕ) → I ≡ suc J → start_cells R pos I s ≡ suc (placed_with R (pos J) s)
unfolding start_cells
start-count R pos I j s e = ap (λ (k : ℕ). start_cells R pos k s) e

module _ (D : Deck) (R : ℕ) (pos : ℕ → ℕ) where
  pub started_open : {count I s l to : ℕ} {old new : List ℕ} → I ≡ 0 → count ≡ state_count R → to ≡ kept_at 1
      → Begun (first_open D R) D.poses count to old new → FirstKept D R pos I s l 1 old new
  unfolding start_cells start_layer
  started_open {count} {I} {s} {l} {to} {old} {new} e n z w =
      subst (λ (k : ℕ). FirstKept D R pos k s l 1 old new) (sym e) record {
        count = refl;
        frame = frame-join kept_from pages_from (frame-refl kept_from pages_from old) w.frame (omega arith) (omega arith)
            (omega arith) (omega arith);
        low = w.low;
        right = λ q a x y. ap (λ (k : ℕ). get_or new (k + q * pose_slots + a) 0) (sym z) ∙ w.right q a (omega arith) y;
      }

  pub started_after : {count I s l i p to : ℕ} {old new : List ℕ} (J : ℕ) → I ≡ suc J → p ≡ pos J → i ≡ placed_with R p s
      → count ≡ state_count R
      → to ≡ kept_at (i + 1) → i + 1 ≤ max_kept
      → Begun (first_after D R i (marks R s) p l) D.poses count to old new → FirstKept D R pos I s l (i + 1) old new
  unfolding start_cells start_layer
  started_after {count} {I} {s} {l} {i} {p} {to} {old} {new} J e f g n z h w =
      subst (λ (k : ℕ). FirstKept D R pos k s l (i + 1) old new) (sym e) record {
        count = omega arith;
        frame = frame-join kept_from pages_from (frame-refl kept_from pages_from old) w.frame (omega arith) (omega arith)
            (omega arith) (omega arith);
        low = w.low;
        right = λ q a x y.
            ap (λ (k : ℕ). get_or new (k + q * pose_slots + a) 0) (sym z)
            ∙ w.right q a (omega arith) y
            ∙ ap (λ (k : ℕ). first_after D R k (marks R s) p l q a) g
            ∙ ap (λ (k : ℕ). first_after D R (placed_with R k s) (marks R s) k l q a) f;
      }

-- ---- the cost of a stage below B

module _ (D : Deck) (R talls : ℕ) (pos : ℕ → ℕ) (I : ℕ) (f : Layer) (i e q a : ℕ) where
  -- to a tall cell: there is room for it, and its layer has the cost
  pub tall-cost : I < talls → stage_end D R talls pos I f i e q a < B
      → (i + offset R q ≤ pos I + suc R) × (layers D R f i (pos I + suc R - offset R q - i) q a < B)
  unfolding stage_end cost_to
  tall-cost h l = go (ltb I talls) (lt-ltb I talls h) (leb (i + offset R q) (pos I + suc R)) refl l
    where
      go : (t : Bool) → t ≡ true → (u : Bool) → leb (i + offset R q) (pos I + suc R) ≡ u
          → cond t (cond u (layers D R f i (pos I + suc R - offset R q - i) q a) B)
          (cond (eqb q 0 && eqb a 0) (cost_end D R f i e) B) < B
          → (i + offset R q ≤ pos I + suc R) × (layers D R f i (pos I + suc R - offset R q - i) q a < B)
      go true y true z x = (leb-true (i + offset R q) (pos I + suc R) z, x)
      go true y false z x = absurd (omega arith)
      go false y u z x = absurd (let w : ◌≡◌ {A = ℕ} 0 1 = cc in omega arith)

  -- to the row's end
  pub end-cost : talls ≤ I → stage_end D R talls pos I f i e q a < B → cost_end D R f i e < B
  unfolding stage_end
  end-cost h l = go (ltb I talls) (le-ltb I talls h) (eqb q 0 && eqb a 0) l
    where
      go : (t : Bool) → t ≡ false → (u : Bool) → cond t (cost_to D R f i (pos I) q a) (cond u (cost_end D R f i e) B) < B
          → cost_end D R f i e < B
      go false y true x = x
      go false y false x = absurd (omega arith)
      go true y u x = absurd (let w : ◌≡◌ {A = ℕ} 0 1 = cc in omega arith)

pub end-bound : (D : Deck) (R : ℕ) (f : Layer) (i e : ℕ) → cost_end D R f i e < B → i ≤ suc D.size
end-bound D R f i e l = go (dec_lt D.size i)
  where
    go : Dec (D.size < i) → i ≤ suc D.size
    go (yes h) = omega (arith, end_full D R f i e h l)
    go (no h) = omega arith

pub end-tall : (n R talls : ℕ) (pos : ℕ → ℕ) (I q : ℕ) → I < talls → end_place n R talls pos I q ≡ placed_with R (pos I) q
unfolding end_place
end-tall n R talls pos I q h = ap (λ t. cond t (placed_with R (pos I) q) n) (lt-ltb I talls h)

pub end-last : (n R talls : ℕ) (pos : ℕ → ℕ) (I q : ℕ) → talls ≤ I → end_place n R talls pos I q ≡ n
unfolding end_place
end-last n R talls pos I q h = ap (λ t. cond t (placed_with R (pos I) q) n) (le-ltb I talls h)

-- ---- a stage

module _ {row st path : List ℕ} {z : Sizes} {I s l q a : ℕ} (g : Stage row st path z I s l q a) where
  abbrev D : Deck
  D = deck_in row z

  abbrev f : Layer
  f = start_layer (deck_in row z) z.reordering (pos_in row) I s l

  abbrev pays : ℕ
  pays = start_end (deck_in row z) (pos_in row) I l

  abbrev HasWay : Type 0
  HasWay = cost_from (deck_in row z) z.reordering z.talls (pos_in row) I s l q a < B

  -- nothing is noted
  none-noted : {new : List ℕ} → Frame 0 pages_from st new → Low new → (HasWay → ⊥)
      → StageNoted (deck_in row z) z.reordering z.talls (pos_in row) I s l q a st new path path
  none-noted u w none = record {
    frame = u;
    low = w;
    notes = frame-refl (start_cells z.reordering (pos_in row) I s)
        (suc (end_place z.cells z.reordering z.talls (pos_in row) I q)) path;
    row_traced = λ c. absurd (none c);
  }

  -- the first layer has its place among those that are kept
  start_fits : HasWay → start_cells z.reordering (pos_in row) I s ≤ max_kept
  start_fits c = go (dec_lt I z.talls)
    where
      size : z.cells ≤ max_cells
      size = g.start.given.grounded.size

      go : Dec (I < z.talls) → start_cells z.reordering (pos_in row) I s ≤ max_kept
      go (yes h) =
          let p = tall-cost D z.reordering z.talls (pos_in row) I f
          (start_cells z.reordering (pos_in row) I s) pays q a h c in
          omega (arith, p.0, g.start.given.inside I h, size, g.start.given.grounded.coded.reorder)
      go (no h) =
          let p = end-cost D z.reordering z.talls (pos_in row) I f
          (start_cells z.reordering (pos_in row) I s) pays q a (omega arith) c in
          omega (arith, size, end-bound D z.reordering f (start_cells z.reordering (pos_in row) I s) pays p)

  pub start-late : max_kept < start_cells z.reordering (pos_in row) I s
      → StageNoted (deck_in row z) z.reordering z.talls (pos_in row) I s l q a st st path path
  start-late h = none-noted (frame-refl 0 pages_from st) g.start.low (λ c. omega (arith, start_fits c))

  module _ {cells : ℕ} {mid : List ℕ} (w : FirstKept (deck_in row z) z.reordering (pos_in row) I s l cells st mid)
      (few : cells ≤ max_kept) where
    some : 0 < cells
    some = omega (arith, w.count, start-some z.reordering (pos_in row) I s)

    -- the cost, from as many cells as were counted
    cost : HasWay → stage_end D z.reordering z.talls (pos_in row) I f cells pays q a < B
    cost c = subst (λ (i : ℕ). stage_end D z.reordering z.talls (pos_in row) I f i pays q a < B) (sym w.count) c

    -- the first layer is the one that is kept
    kept-start : {end : ℕ} {new : List ℕ} → KeptLayers D z.reordering (kept_in mid cells) cells end new
        → KeptLayers D z.reordering f cells end new
    kept-start k = kept_ext (kept_in mid cells) f w.right k

    back : {new : List ℕ} → Low new → length new ≡ length mid → Back row new z
    back u e =
        record { grounded = g.start.given.grounded; low = u; long = omega (arith, g.start.long, w.frame.long) }

    segment : (end : ℕ) → end ≤ max_kept → Segment row mid z cells end
    segment end k = record {
      grounded = g.start.given.grounded;
      low = w.low;
      long = omega (arith, g.start.long, w.frame.long);
      some = some;
      cells = few;
      last = k;
    }

    store_kept : {new : List ℕ} → Frame kept_from pages_from mid new → Frame 0 pages_from st new
    store_kept u = frame-join 0 pages_from w.frame u (omega arith) (omega arith) (omega arith) (omega arith)

    -- ---- to a tall cell

    module _ (h : I < z.talls) {end : ℕ} (e : end ≡ placed_with z.reordering (pos_in row I) q) where
      tall-room : HasWay → (cells + offset z.reordering q ≤ pos_in row I + suc z.reordering)
          × (layers D z.reordering f cells (end - cells) q a < B)
      tall-room c =
          let p = tall-cost D z.reordering z.talls (pos_in row) I f cells pays q a h (cost c) in
          (p.0, subst (λ (j : ℕ). layers D z.reordering f cells (j - cells) q a < B) (sym e) p.1)

      pub tall-late : end < cells → StageNoted D z.reordering z.talls (pos_in row) I s l q a st mid path path
      tall-late o = none-noted (frame-join 0 pages_from (frame-refl 0 pages_from st) w.frame (omega arith)
          (omega arith) (omega arith) (omega arith)) w.low (λ c. omega (arith, (tall-room c).0))

      pub end_low : end ≤ max_kept
      end_low =
          let c = g.start.given.grounded.coded.reorder in
          omega (arith, g.start.given.inside I h, g.start.given.grounded.size)

      pub tall-segment : Segment row mid z cells end
      tall-segment = segment end end_low

      module _ (o : cells ≤ end) {new : List ℕ} (k : SegmentKept D z.reordering cells end mid new) where
        tall-kept : KeptLayers D z.reordering f cells (cells + (end - cells)) new
        tall-kept = kept-start (kept-fewer (cells + (end - cells)) (omega arith) k.kept)

        tall-word : kept_in new (cells + (end - cells)) q a ≡ kept_in new end q a
        tall-word = ap (λ (j : ℕ). kept_in new j q a) (omega arith)

        pub tall-none : B ≤ kept_in new end q a
            → StageNoted D z.reordering z.talls (pos_in row) I s l q a st new path path
        tall-none b = none-noted (store_kept k.frame) k.low (λ c. omega (
          arith,
          tall-word,
          tall-kept.right (end - cells) q a (omega arith) (g.state h) (g.pose h),
          (tall-room c).1,
        ))

        pub tall-trace : kept_in new end q a < B → SegmentTrace row new path z cells (end - cells) q a
        tall-trace b =
            record {
              back = back k.low k.frame.long;
              room = g.room;
              some = some;
              last = omega (arith, end_low);
              state = g.state h;
              pose = g.pose h;
              first = f;
              kept = tall-kept;
              cost = omega (arith, tall-word);
            }

        pub tall-done : {path' : List ℕ} → SegmentTraceDone D z.reordering new cells (end - cells) q a path path'
            → StageNoted D z.reordering z.talls (pos_in row) I s l q a st new path path'
        tall-done {path'} d =
            record {
              frame = store_kept k.frame;
              low = k.low;
              notes = frame-join (start_cells z.reordering (pos_in row) I s)
                  (suc (end_place z.cells z.reordering z.talls (pos_in row) I q))
                  (frame-refl (start_cells z.reordering (pos_in row) I s) 0 path) d.frame
                  (omega arith) (omega (arith, w.count)) (omega arith) (omega (arith, last));
              row_traced = λ c. record {
                to_tall = λ y. subst (λ (i : ℕ). (i + offset z.reordering q ≤ pos_in row I + suc z.reordering)
                    × SegmentTraced D z.reordering (NotedBy (word_at path')) f i
                    (pos_in row I + suc z.reordering - offset z.reordering q - i) q a) w.count (
                      (tall-room c).0,
                      subst (λ (j : ℕ). SegmentTraced D z.reordering (NotedBy (word_at path')) f cells
                          (j - cells) q a) e (d.row_traced f tall-kept),
                    );
                to_the_end = λ y. absurd (omega arith);
              };
            }
          where
            last : end_place z.cells z.reordering z.talls (pos_in row) I q ≡ end
            last = end-tall z.cells z.reordering z.talls (pos_in row) I q h ∙ sym e

    -- ---- to the row's end

    module _ (h : z.talls ≤ I) where
      segment_cost : HasWay → cost_end D z.reordering f cells pays < B
      segment_cost c = end-cost D z.reordering z.talls (pos_in row) I f cells pays q a h (cost c)

      pub last-segment : Segment row mid z cells z.cells
      last-segment = let size = g.start.given.grounded.size in segment z.cells (omega arith)

      module _ {new : List ℕ} (k : SegmentKept D z.reordering cells z.cells mid new) where
        pub last-trace : End row new path z cells
        last-trace = record {
          back = back k.low k.frame.long;
          room = g.room;
          some = some;
          first = f;
          kept = kept-start k.kept;
        }

        pub last_done : {path' : List ℕ} → EndDone D z.reordering new cells path path'
            → StageNoted D z.reordering z.talls (pos_in row) I s l q a st new path path'
        last_done {path'} d =
            record {
              frame = store_kept k.frame;
              low = k.low;
              notes = frame-join (start_cells z.reordering (pos_in row) I s)
                  (suc (end_place z.cells z.reordering z.talls (pos_in row) I q))
                  (frame-refl (start_cells z.reordering (pos_in row) I s) 0 path) d.frame
                  (omega arith) (omega (arith, w.count)) (omega arith) (omega (arith, last));
              row_traced = λ c. record {
                to_tall = λ y. absurd (omega arith);
                to_the_end = λ y. subst (λ (i : ℕ). EndTraced D z.reordering (NotedBy (word_at path')) f i pays) w.count
                    (d.row_traced f pays (kept-start k.kept) (segment_cost c));
              };
            }
          where
            last : end_place z.cells z.reordering z.talls (pos_in row) I q ≡ z.cells
            last = end-last z.cells z.reordering z.talls (pos_in row) I q h
