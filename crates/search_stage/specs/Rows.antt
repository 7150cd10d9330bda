-- Costs of a stage in one row, from the first layer and the segment on from it.
use Prim.Native.Nat.{ℕ, suc, ◌+◌, ◌*◌, ◌-◌, ◌≤◌, ◌<◌, min}
use Rattle.std.specs.Prelude.{◌≡◌, List, get_or}
use Rattle.std.proofs.Math.Path.{sym, ap}
use Rattle.std.proofs.Common.{ap₂, ◌∙◌, arith, add-one}
use Rattle.std.proofs.Math.Logic.{⊎_elim}
use Rattle.definition.specs.Job.{max_cells}
use Rattle.search_store.specs.Map.{layer_block, state_block}
use Rattle.search_row.specs.declared.Sizes.{Sizes}
use Rattle.search_row.specs.Words.{pos_in, RowGiven}
use Rattle.theory_tables.specs.Steps.{Deck, Layer, state_count, marks, first_after, first_open}
use Rattle.theory_tables.specs.Stages.{placed_with, stage_end, open_cost, stage_cost}
use Rattle.search_lanes.specs.Store.{Frame, said_in, layer_in, Filled}
use Rattle.search_wide_first.specs.Firsts.{after_from}
use Rattle.search_wide_layer.specs.declared.Block.{Block}
use Rattle.search_wide_segment.specs.Runs.{SegmentGiven, SegmentCosted}
use Rattle.search_wide_end.specs.Ends.{Ended}
use Rattle.search_dense_segment.specs.Opened.{tall_cost, end_cost, Opened}
use Rattle.search_stage.specs.Stage.{wide, cost_of, end_from, RowCosted, EndGiven}
use Rattle.search_stage.specs.Laws.{wide-all, wide-last, wide-tall}
use Rattle.search_stage.specs.Same.{stage_ext, stage-tall, stage-last}

-- the segment on from the first layer
pub segment-given : {table row st starts : List ℕ} {z : Sizes} {layer : Block} {costs : ℕ}
    → EndGiven table row st starts z layer costs
    → SegmentGiven table row st z layer costs
segment-given w = record { lent = w.lent; given = rw w.first at w.begun; begins = w.first; room = w.room }

module _ (D : Deck) (R talls : ℕ) (pos : ℕ → ℕ) where
  -- to a tall cell
  pub row-tall : {I lanes count i p costs : ℕ} {old new table : List ℕ} (starts : List ℕ)
      → I < talls → count ≡ state_count R → p ≡ pos I → SegmentCosted D R lanes i p costs old new table
      → RowCosted (end_from D R talls pos I old i starts) lanes (wide talls (suc I) count)
      (wide talls (suc I) D.poses) costs old new
  row-tall {I} {lanes} {count} {i} {p} {costs} {old} starts h n e w =
      let c = wide-all talls I count h in
      let d = wide-all talls I D.poses h in
      record {
        long = w.outside.long;
        low = w.low;
        kept = λ k h b. ⊎_elim (λ g. w.outside.below k (omega arith) g) (λ g. w.outside.above k (omega arith)) b;
        right = λ q a l x y z.
            let v = w.right q a l (omega arith) (omega arith) z in
            let f = stage-tall D R talls pos (layer_in old 0 l) I i (get_or starts l 0) q a h in
            rw (e) at v ∙ sym f;
      }

  -- to the row's end
  pub row_last : (count : ℕ) {I lanes i costs : ℕ} {starts old new table : List ℕ}
      → talls ≤ I → Ended D R lanes i costs starts old new table
      → RowCosted (end_from D R talls pos I old i starts) lanes (wide talls (suc I) count)
      (wide talls (suc I) D.poses) costs old new
  row_last count {I} {lanes} {i} {costs} {starts} {old} {new} h w =
      let c = wide-last talls (suc I) count (omega arith) in
      let d = wide-last talls (suc I) D.poses (omega arith) in
      record {
        long = w.outside.long;
        low = w.low;
        kept = λ k h b. ⊎_elim (λ g. w.outside.below k (omega arith) g) (λ g. w.outside.above k (omega arith)) b;
        right = λ q a l x y z.
            ap₂ (λ (k b : ℕ). said_in new k b l) (omega arith) (omega arith)
            ∙ w.right l z
            ∙ sym (stage-last D R talls pos (layer_in old 0 l) I i (get_or starts l 0) q a h (omega arith) (omega arith));
      }

  -- after the first layer in block 0; there may be more lanes than are asked for
  row_from : (I i : ℕ) (starts : List ℕ) {lanes width ends poses costs : ℕ} {F : ℕ → Layer} {old mid new : List ℕ}
      → lanes ≤ width → Frame 0 layer_block old mid
      → RowCosted (end_from D R talls pos I mid i starts) width ends poses costs mid new
      → ((q a l : ℕ) → q < ends → a < poses → l < lanes
      → stage_end D R talls pos I (layer_in mid 0 l) i (get_or starts l 0) q a ≡ F l q a)
      → RowCosted F lanes ends poses costs old new
  row_from I i starts m f w e =
      record {
        long = w.long ∙ f.long;
        low = w.low;
        kept = λ k x y. w.kept k x y ∙ f.high k (omega arith);
        right = λ q a l x y z. w.right q a l x y (omega arith) ∙ e q a l x y z;
      }

  -- stage 0, to the first tall cell
  pub open_tall : {count p costs : ℕ} {old new : List ℕ}
      → 0 < talls → p ≡ pos 0 → Opened (tall_cost D R p) count D.poses costs old new
      → RowCosted (cost_of D R talls pos 0 0) 1 (wide talls 1 count) (wide talls 1 D.poses) costs old new
  unfolding cost_of open_cost
  open_tall {count} {p} {costs} {old} {new} h e w =
      let c = wide-all talls 0 count h in
      let d = wide-all talls 0 D.poses h in
      record {
        long = w.long;
        low = w.low;
        kept = λ k g b. ⊎_elim (w.below k g) (w.above k) b;
        right = λ q a l x y z.
            let v = w.right q a (omega arith) (omega arith) in
            ap (said_in new (costs + q * state_block) a) (omega arith) ∙ rw (e) at v
            ∙ sym (stage-tall D R talls pos (first_open D R) 0 1 0 q a h);
      }

  -- and to the end of a row that has none
  pub open_last : (count : ℕ) {costs : ℕ} {old new : List ℕ}
      → talls ≤ 0 → Opened (end_cost D R) 1 1 costs old new
      → RowCosted (cost_of D R talls pos 0 0) 1 (wide talls 1 count) (wide talls 1 D.poses) costs old new
  unfolding cost_of open_cost
  open_last count {costs} {old} {new} h w =
      let c = wide-last talls 1 count (omega arith) in
      let d = wide-last talls 1 D.poses (omega arith) in
      record {
        long = w.long;
        low = w.low;
        kept = λ k g b. ⊎_elim (w.below k g) (w.above k) b;
        right = λ q a l x y z.
            ap (said_in new (costs + q * state_block) a) (omega arith)
            ∙ w.right q a (omega arith) (omega arith)
            ∙ sym (stage-last D R talls pos (first_open D R) 0 1 0 q a h (omega arith) (omega arith));
      }

  -- it is the same from every start state
  pub row_open : {I : ℕ} (count s lanes : ℕ) {costs : ℕ} {old new : List ℕ}
      → I ≡ 0 → RowCosted (cost_of D R talls pos 0 0) 1 (wide talls 1 count) (wide talls 1 D.poses) costs old new
      → RowCosted (cost_of D R talls pos I s) (min lanes (wide talls I D.poses)) (wide talls (suc I) count)
      (wide talls (suc I) D.poses) costs old new
  unfolding cost_of wide
  row_open count s lanes {costs} {old} {new} e w =
      let v : RowCosted (cost_of D R talls pos 0 s) (min lanes 1) (wide talls 1 count) (wide talls 1 D.poses) costs
      old new =
      record {
        long = w.long;
        low = w.low;
        kept = w.kept;
        right = λ q a l x y z. w.right q a l x y (omega arith);
      } in
      rw e v

  -- the stage after tall cell I, which stands as state s
  after-tall : (I count s : ℕ) (starts : List ℕ) {lanes costs : ℕ} {old mid new : List ℕ}
      → I < talls → count ≡ state_count R
      → ((l : ℕ) → l < D.poses → get_or starts l 0 ≡ D.back (pos I) l)
      → Filled (after_from D R (placed_with R (pos I) s) (marks R s) (pos I)) lanes D.poses 0 count old mid
      → RowCosted (end_from D R talls pos (suc I) mid (suc (placed_with R (pos I) s)) starts) lanes
      (wide talls (suc (suc I)) count) (wide talls (suc (suc I)) D.poses) costs mid new
      → RowCosted (cost_of D R talls pos (suc I) s) (min lanes (wide talls (suc I) D.poses))
      (wide talls (suc (suc I)) count) (wide talls (suc (suc I)) D.poses) costs old new
  unfolding cost_of stage_cost
  after-tall I count s starts {lanes} {mid = mid} h n b f w =
      let i = placed_with R (pos I) s in
      rw (wide-all talls I D.poses h)
      (row_from (suc I) (suc i) starts {lanes = min lanes D.poses} (omega arith) f.frame w
      (λ q a l x y z.
      stage_ext D R (layer_in mid 0 l) (first_after D R i (marks R s) (pos I) l)
      (λ q a v u. f.right q (omega arith) a l u (omega arith))
      talls pos (suc I) (suc i) (get_or starts l 0) q a (rw n at x) y
      ∙ ap (λ (e : ℕ). stage_end D R talls pos (suc I) (first_after D R i (marks R s) (pos I) l) (suc i) e q a)
      (b l (omega arith))))

  pub row-after : (I J count s p placed : ℕ) (starts : List ℕ) {lanes costs : ℕ} {old mid new : List ℕ}
      → I ≡ suc J → I ≤ talls → count ≡ state_count R → p ≡ pos J → placed ≡ placed_with R p s
      → ((l : ℕ) → l < D.poses → get_or starts l 0 ≡ D.back p l)
      → Filled (after_from D R placed (marks R s) p) lanes D.poses 0 count old mid
      → RowCosted (end_from D R talls pos I mid (placed + 1) starts) lanes (wide talls (suc I) count)
      (wide talls (suc I) D.poses) costs mid new
      → RowCosted (cost_of D R talls pos I s) (min lanes (wide talls I D.poses)) (wide talls (suc I) count)
      (wide talls (suc I) D.poses) costs old new
  row-after I J count s p placed starts e h n g k b f w =
      let v = rw (k, g) at f in
      let u = rw (add-one, k, g, e) at w in
      rw e (after-tall J count s starts (omega arith) n (λ l z. b l z ∙ ap (λ (p : ℕ). D.back p l) g) v u)

-- ---- a start after a tall cell

pub start-place : {row : List ℕ} {z : Sizes} (I p : ℕ)
    → RowGiven row z → (I ≡ 0 → ⊥) → I ≤ z.talls → p ≡ pos_in row (I - 1) → p < max_cells
start-place I p g e h k = omega (arith, g.inside (I - 1) (omega (arith, e)), g.grounded.size)

pub start-state : (talls I count s : ℕ) → s < wide talls I count → (I ≡ 0 → ⊥) → I ≤ talls → s < count
start-state talls I count s h z g = omega (arith, wide-tall talls I count z g)
