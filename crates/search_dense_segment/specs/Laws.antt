-- Laws of the costs from a row's start: from the kept layers to the costs.
use Rattle.std.specs.Prelude.{ℕ, suc, ◌+◌, ◌*◌, ◌-◌, ◌≤◌, ◌<◌, ◌≡◌, refl, Bool, true, false, not, ◌&&◌, cond, List, length, get_or, leb}
use Rattle.std.proofs.Common.{sym, ap, ap₂, ◌∙◌, inl, inr, arith, le-leb, eq-eqb, ne_eqb}
use Rattle.std.proofs.lemmas.Bool.{lt-leb}
use Rattle.std.proofs.Math.Decide.{dec_lt}
use Rattle.search_buckets.specs.Ends.{least_poses, least_state, least_states, state_in_lem, state-out}
use Rattle.search_buckets.specs.Ends.{states-low, ends-gathered, cost-run, cost-done}
use Rattle.search_store.specs.Map.{kept_at, kept_from, pages_from, max_kept}
use Rattle.theory_tables.specs.Steps.{B, Deck, Layer, state_count, offset, last_at, pose_slots}
use Rattle.theory_tables.specs.Steps.{layers, first_open, cost_to, ends, cost_end}
use Rattle.search_lanes.specs.Store.{Filled, said_in, RowSaid}
use Rattle.search_lanes.specs.Lanes.{always}
use Rattle.search_lanes.specs.Laws.{frame-join}
use Rattle.search_row.specs.Words.{word_of, back_in, deck_of, there_in, tall_word}
use Rattle.search_row.specs.Laws.{and-away, and-there}
use Rattle.search_dense_layer.specs.Thin.{thin_in}
use Rattle.search_dense_first.specs.Begun.{Begun}
use Rattle.search_dense_layer.specs.Kept.{kept_in, KeptLayers, SegmentKept}
use Rattle.search_dense_layer.specs.KeptLaws.{kept_ext}
use Rattle.search_buckets.specs.Next.{ends_ext}
use Rattle.search_dense_segment.specs.Opened.{comes_in, tall_cost, end_cost, OpenKept, Opened}

-- ---- the layers

-- the first layer, then those after it
pub open_kept :
    (D : Deck) (R : ℕ) {count to end : ℕ} {old mid new : List ℕ}
    → to ≡ kept_from → count ≡ state_count R → Begun (first_open D R) D.poses count to old mid
    → SegmentKept D R 1 end mid new
    → OpenKept D R end old new
open_kept D R {mid = mid} e n b s =
    record {
      frame =
          frame-join kept_from pages_from b.frame s.frame (omega arith) (omega arith) (omega arith) (omega arith);
      low = s.low;
      kept = kept_ext (kept_in mid 1) (first_open D R)
          (λ q a x y. ap (λ (k : ℕ). get_or mid k 0) (omega arith) ∙ b.right q a (omega arith) y)
          s.kept;
    }

-- ---- to a tall cell

module _ (R p : ℕ) (st : List ℕ) (l q a : ℕ) where
  pub comes_with : 1 + offset R q ≤ p + suc R → comes_in R p st l q a ≡ kept_in st (p + suc R - offset R q) q a
  comes_with h = ap (λ t. cond t (kept_in st (p + suc R - offset R q) q a) B) (le-leb (1 + offset R q) (p + suc R) h)

  pub comes_late : p + suc R < 1 + offset R q → comes_in R p st l q a ≡ B
  comes_late h = ap (λ t. cond t (kept_in st (p + suc R - offset R q) q a) B) (lt-leb (1 + offset R q) (p + suc R) h)

-- they stand below the costs
pub comes_kept : (R p q a l : ℕ) (old new : List ℕ) → p + suc R ≤ max_kept → q < 12 → a < pose_slots
    → ((k : ℕ) → k < pages_from → get_or new k 0 ≡ get_or old k 0)
    → comes_in R p old l q a ≡ comes_in R p new l q a
comes_kept R p q a l old new h g k same =
    ap (λ (x : ℕ). cond (leb (1 + offset R q) (p + suc R)) x B)
    (sym (same (kept_at (p + suc R - offset R q) + q * pose_slots + a) (omega arith)))

-- by the kept layers these are the costs
comes_cost : (D : Deck) (R p q a end l : ℕ) {st : List ℕ} → end ≡ p + suc R → q < state_count R → a < D.poses
    → KeptLayers D R (first_open D R) 1 end st
    → comes_in R p st l q a ≡ tall_cost D R p q a
unfolding cost_to
comes_cost D R p q a end l {st} e x y k = go (dec_lt (p + suc R) (1 + offset R q))
  where
    go : Dec (p + suc R < 1 + offset R q)
        → comes_in R p st l q a
        ≡ cond (leb (1 + offset R q) (p + suc R)) (layers D R (first_open D R) 1 (p + suc R - offset R q - 1) q a) B
    go (yes h) = rw (lt-leb (1 + offset R q) (p + suc R) h) refl
    go (no h) =
        let i : p + suc R - offset R q ≡ 1 + (p + suc R - offset R q - 1) = omega arith in
        rw (le-leb (1 + offset R q) (p + suc R) (omega arith))
        (ap (λ (i : ℕ). kept_in st i q a) i ∙ k.right (p + suc R - offset R q - 1) q a (omega arith) x y)

pub opened-to :
    (D : Deck) (R p : ℕ) {count costs end : ℕ} {old mid new : List ℕ}
    → end ≡ p + suc R → pages_from ≤ costs → count ≡ state_count R → OpenKept D R end old mid
    → Filled (comes_in R p mid) 1 D.poses costs count mid new
    → Opened (tall_cost D R p) count D.poses costs old new
opened-to D R p {end = end} e o n k f =
    record {
      long = f.frame.long ∙ k.frame.long;
      low = f.low;
      below = λ j h g. f.frame.low j g ∙ k.frame.high j h;
      above = λ j h. f.frame.high j h ∙ k.frame.high j (omega arith);
      right = λ q a x y. f.right q x a 0 y (omega arith) ∙ comes_cost D R p q a end 0 e (omega arith) y k.kept;
    }

-- ---- to the row's end

-- the tests of a state: the row does not have its cell; it is tall; it can be the last
module _ (row : List ℕ) (n poses R k q : ℕ) (f : Layer) where
  pub state-away : there_in n R n q ≡ false → least_state (deck_of row n poses) R f q ≡ B
  state-away h = state-out (deck_of row n poses) R f q (sym (and-away (there_in n R n q) _ h))

  pub state-tall : k ≡ last_at R n q → word_of row k tall_word ≡ 1 → least_state (deck_of row n poses) R f q ≡ B
  state-tall e h = state-out (deck_of row n poses) R f q (go (there_in n R n q)
      (eq-eqb (word_of row (last_at R n q) tall_word) 1 (ap (λ (k : ℕ). word_of row k tall_word) (sym e) ∙ h)))
    where
      go : (s : Bool) {t : Bool} → t ≡ true → (s && not t) ≡ false
      go true h = ap not h
      go false h = refl

  pub state-single : k ≡ last_at R n q → there_in n R n q ≡ true → (word_of row k tall_word ≡ 1 → ⊥)
      → least_state (deck_of row n poses) R f q ≡ least_poses (back_in row k) f q poses
  state-single e h z =
      state_in_lem (deck_of row n poses) R f q
      (sym (and-there (there_in n R n q) _ h)
      ∙ ap not (ne_eqb (word_of row (last_at R n q) tall_word) 1 (λ w. z (ap (λ (k : ℕ). word_of row k tall_word) e ∙ w))))
      ∙ ap (λ (k : ℕ). least_poses (back_in row k) f q poses) (sym e)

-- the least of all states is the least of the layer
module _ (D : Deck) (R : ℕ) where
  -- one word is written, and it is the cost
  opened-word : (costs x : ℕ) {old mid new : List ℕ}
      → pages_from ≤ costs → length mid ≡ length old → ((j : ℕ) → pages_from ≤ j → get_or mid j 0 ≡ get_or old j 0)
      → RowSaid (always x) costs 0 1 mid new → x ≡ cost_end D R (first_open D R) 1 0
      → Opened (end_cost D R) 1 1 costs old new
  opened-word costs x {new = new} o n same w e =
      record {
        long = w.long ∙ n;
        low = w.low;
        below = λ j h g. w.kept j (inl (omega arith)) (λ z. omega arith) ∙ same j h;
        above = λ j h. w.kept j (inr (omega arith)) (λ z. omega arith) ∙ same j (omega arith);
        right = λ q a h g. ap₂ (λ (k b : ℕ). said_in new k b 0) (omega arith) (omega arith) ∙ w.words 0 (omega arith)
            ∙ e;
      }

  -- the row has no cell
  pub opened-none : (costs : ℕ) {old new : List ℕ} → D.size ≡ 0 → pages_from ≤ costs
      → RowSaid (always 0) costs 0 1 old new → Opened (end_cost D R) 1 1 costs old new
  opened-none costs z o w =
      opened-word costs 0 o refl (λ j g. refl) w (sym (cost-done D R (first_open D R) 1 0 (omega arith)))

  -- the least of the layer with all cells
  pub opened-end : (costs x at : ℕ) {count : ℕ} {old mid new : List ℕ}
      → 1 ≤ D.size → pages_from ≤ costs → count ≡ state_count R → at ≡ kept_at D.size
      → OpenKept D R D.size old mid → x ≡ least_states D R (thin_in mid at) count
      → RowSaid (always x) costs 0 1 mid new
      → Opened (end_cost D R) 1 1 costs old new
  opened-end costs x at {count} {old} {mid} z o n e k g r =
      let b = states-low D R (thin_in mid at) count in
      let w = ends-gathered D R (thin_in mid at) {x = x} n (omega arith) in
      opened-word costs x o k.frame.long k.frame.high r
      (let y : x ≡ ends D R (thin_in mid at) = omega arith in
      y ∙ ends_ext D R (thin_in mid at) (layers D R (first_open D R) 1 (D.size - 1)) last
      ∙ sym (cost-run D R (first_open D R) 1 0 z))
    where
      last : (q a : ℕ) → q < state_count R → a < D.poses
          → thin_in mid at q a ≡ layers D R (first_open D R) 1 (D.size - 1) q a
      last q a u v = ap (λ (j : ℕ). get_or mid j 0) (omega arith) ∙ k.kept.right (D.size - 1) q a (omega arith) u v
