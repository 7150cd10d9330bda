-- Laws of kept layers: one layer more, fewer layers; and that layers depend only on the entries of the first.
use Rattle.std.specs.Prelude.{ℕ, zero, suc, ◌+◌, ◌*◌, ◌-◌, ◌≤◌, ◌<◌, ◌≡◌, List, get_or}
use Rattle.std.proofs.Common.{sym, ap, subst, ◌∙◌, arith}
use Rattle.std.proofs.Math.Decide.{ℕ_discrete}
use Rattle.search_store.specs.Map.{kept_at, kept_from, pages_from, max_kept, max_poses}
use Rattle.theory_tables.specs.Steps.{Deck, Layer, state_count, layers, next_layer, pose_slots}
use Rattle.search_lanes.specs.Laws.{frame-refl, frame-join}
use Rattle.search_lanes.specs.Store.{Low}
use Rattle.search_buckets.specs.Next.{next_ext, layers_ext}
use Rattle.search_dense_layer.specs.Thin.{Stepped}
use Rattle.search_dense_layer.specs.Kept.{kept_in, KeptLayers, SegmentKept}

-- ---- layers from the same first layer

pub kept_ext :
    {D : Deck} {R : ℕ} (f g : Layer) {i end : ℕ} {st : List ℕ}
    → ((q b : ℕ) → q < state_count R → b < D.poses → f q b ≡ g q b) → KeptLayers D R f i end st
    → KeptLayers D R g i end st
kept_ext {D} {R} f g {i} same k =
    record { right = λ j q a h x y. k.right j q a h x y ∙ layers_ext D R f g same i j q a x y }

pub kept-fewer : {D : Deck} {R : ℕ} {f : Layer} {i m : ℕ} {st : List ℕ} (end : ℕ) → end ≤ m → KeptLayers D R f i m st
    → KeptLayers D R f i end st
kept-fewer end h k = record { right = λ j q a x. k.right j q a (omega arith) }

-- ---- one step more

-- a layer from the one before
layers-more : (D : Deck) (R : ℕ) (f : Layer) (i j q a : ℕ)
    → layers D R f i (j + 1) q a ≡ next_layer D R (layers D R f i j) (i + j) q a
unfolding layers
layers-more D R f i j q a = let z : j + 1 ≡ suc j = omega arith in ap (λ (k : ℕ). layers D R f i k q a) z

-- the first layer is there
pub kept-none : (D : Deck) (R i : ℕ) {st : List ℕ} → Low st → SegmentKept D R i i st st
unfolding layers
kept-none D R i {st} w =
    record { frame = frame-refl _ _ st; low = w; kept = record { right = λ j q a h x y. go j q a h } }
  where
    go : (j q a : ℕ) → i + j ≤ i → kept_in st (i + j) q a ≡ layers D R (kept_in st i) i j q a
    go zero q a h = ap (λ (k : ℕ). get_or st k 0) (omega arith)
    go (suc j) q a h = absurd (omega arith)

module _ (D : Deck) (R i : ℕ) (some : 0 < i) (few : D.poses ≤ max_poses) (statesFew : state_count R ≤ 12) where
  pub kept_more :
      {count from : ℕ} {old mid new : List ℕ} (j : ℕ)
      → i + (j + 1) ≤ max_kept → count ≡ state_count R → from ≡ kept_at (i + j) → SegmentKept D R i (i + j) old mid
      → Stepped D R count (i + j) from mid new
      → SegmentKept D R i (i + (j + 1)) old new
  kept_more {count} {from} {old} {mid} {new} j l n e s w =
      record {
        frame =
            frame-join kept_from pages_from s.frame w.frame (omega arith) (omega arith) (omega arith) (omega arith);
        low = w.low;
        kept = record { right = λ k q a h x y. kept k q a x y h (ℕ_discrete k (j + 1)) };
      }
    where
      first : Layer
      first = kept_in old i

      -- the layer before, as it is read
      before : (q a : ℕ) → q < state_count R → a < D.poses
          → get_or mid (from + q * pose_slots + a) 0 ≡ layers D R first i j q a
      before q a x y = ap (λ (k : ℕ). get_or mid (k + q * pose_slots + a) 0) e ∙ s.kept.right j q a (omega arith) x y

      next : (q a : ℕ) → q < state_count R → a < D.poses → kept_in new (i + (j + 1)) q a ≡ layers D R first i (j + 1) q a
      next q a x y =
          ap (λ (k : ℕ). get_or new (k + q * pose_slots + a) 0) (omega arith)
          ∙ w.right q a (omega arith) y
          ∙ next_ext D R (λ q b. get_or mid (from + q * pose_slots + b) 0) (layers D R first i j) before (i + j) q a
          ∙ sym (layers-more D R first i j q a)

      kept : (k q a : ℕ) → q < state_count R → a < D.poses → i + k ≤ i + (j + 1) → Dec (k ≡ j + 1)
          → kept_in new (i + k) q a ≡ layers D R first i k q a
      kept k q a x y h (yes z) = rw z (next q a x y)
      kept k q a x y h (no z) =
          w.frame.low (kept_at (i + k) + q * pose_slots + a) (omega arith) ∙ s.kept.right k q a (omega arith) x y

  pub kept-next :
      {count from cells : ℕ} {old mid new : List ℕ}
      → i ≤ cells → cells + 1 ≤ max_kept → count ≡ state_count R → from ≡ kept_at cells → SegmentKept D R i cells old mid
      → Stepped D R count cells from mid new
      → SegmentKept D R i (cells + 1) old new
  kept-next {count} {from} {cells} {old} {mid} {new} h l n e s w =
      let x : cells ≡ i + (cells - i) = omega arith in
      let y : i + (cells - i + 1) ≡ cells + 1 = omega arith in
      subst (λ (m : ℕ). SegmentKept D R i m old new) y
      (kept_more (cells - i) (omega arith) n (omega arith) (subst (λ (m : ℕ). SegmentKept D R i m old mid) x s)
      (subst (λ (m : ℕ). Stepped D R count m from mid new) x w))
