-- The next layer by the buckets of its sources, and that it depends only on the entries of the layer before.
use Prim.Native.Nat.{ℕ, zero, suc, ◌+◌, ◌≤◌, ◌<◌, min}
use Rattle.std.specs.Prelude.{◌≡◌, refl, true, false, ◌&&◌, List}
use Rattle.std.proofs.Common.{sym, ap₂, ◌∙◌, arith}
use Rattle.std.proofs.Math.Path.{ap}
use Rattle.std.proofs.Math.Bool.{not, cond}
use Rattle.theory_tables.specs.Steps.{B, Deck, Layer, state_count, last_at, is_there}
use Rattle.theory_tables.specs.Steps.{is_source, via, reached, next_layer, layers, ends}
use Rattle.search_row.specs.Words.{word_of, deck_of, there_in}
use Rattle.search_buckets.specs.Loops.{lowest_ext}
use Rattle.search_buckets.specs.Rows.{found, one_state, by_states}
use Rattle.search_buckets.specs.Laws.{reached-found, found-away}
use Rattle.search_buckets.specs.Sources.{states-away}

-- state q is a target, with one cell more
pub record Target (n R i q : ℕ) : Type 0 where
  pub state : q < state_count R
  pub there : there_in n R (suc i) q ≡ true

-- ---- the next layer

module _ (D : Deck) (R : ℕ) (f : Layer) (i q a : ℕ) where
  -- a target that is there, and one that is not
  next-there : is_there D R (suc i) q ≡ true
      → next_layer D R f i q a ≡ min (D.own (last_at R (suc i) q) a + reached D R f i q a) B
  unfolding next_layer
  next-there e = ap (λ t. cond t (min (D.own (last_at R (suc i) q) a + reached D R f i q a) B) B) e

  pub next-away : is_there D R (suc i) q ≡ false → next_layer D R f i q a ≡ B
  unfolding next_layer
  next-away e = ap (λ t. cond t (min (D.own (last_at R (suc i) q) a + reached D R f i q a) B) B) e

-- from what is found in the buckets of all sources
module _ (row : List ℕ) (n poses R : ℕ) (f : Layer) (i q a : ℕ) (there : there_in n R (suc i) q ≡ true) where
  pub next-found : {count m x : ℕ} → count ≡ state_count R → m ≡ last_at R (suc i) q
      → x ≡ found (by_states row (deck_of row n poses) R f i q count) a
      → next_layer (deck_of row n poses) R f i q a ≡ min (word_of row m a + x) B
  next-found {count} {m} {x} e p h =
      next-there (deck_of row n poses) R f i q a there
      ∙ ap₂ (λ (k y : ℕ). min (word_of row k a + y) B) (sym p)
      (reached-found row n poses R f i q a
      ∙ ap (λ (c : ℕ). found (by_states row (deck_of row n poses) R f i q c) a) (sym e) ∙ sym h)

  pub next-none : {count : ℕ} → count ≡ state_count R → found (by_states row (deck_of row n poses) R f i q count) a ≡ B
      → next_layer (deck_of row n poses) R f i q a ≡ B
  next-none e h = let z = next-found e refl (sym h) in omega arith

  -- a pose that is not offered
  pub next-unoffered : {m : ℕ} → m ≡ last_at R (suc i) q → B ≤ word_of row m a
      → next_layer (deck_of row n poses) R f i q a ≡ B
  next-unoffered p h = let z = next-found refl p refl in omega arith

  pub next-alone : {count : ℕ} → count ≡ state_count R
      → ((v t p : ℕ) → p < count → B ≤ one_state row (deck_of row n poses) R f i q p v t)
      → next_layer (deck_of row n poses) R f i q a ≡ B
  next-alone {count} e h =
      next-none e (found-away (by_states row (deck_of row n poses) R f i q count) a
      (λ v t. states-away row (deck_of row n poses) R f i q count v t (h v t)))

-- ---- only the entries of the first layer count, in the next one, in all that follow, and where the row ends

module _ (D : Deck) (R : ℕ) (f g : Layer) (same : (q b : ℕ) → q < state_count R → b < D.poses → f q b ≡ g q b) where
  via_ext : (i q k a : ℕ) → q < state_count R → via D R f i q k a ≡ via D R g i q k a
  unfolding via
  via_ext i q k a h =
      lowest_ext _ _ 0 D.poses (λ b p. ap (λ (x : ℕ). x + D.toll (last_at R i q) b k a) (same q b h (omega arith)))

  reached_ext : (i q a : ℕ) → reached D R f i q a ≡ reached D R g i q a
  unfolding reached
  reached_ext i q a =
      lowest_ext _ _ 0 (state_count R)
      (λ p h. ap (λ (x : ℕ). cond (is_source D R i q p) x B) (via_ext i p (last_at R (suc i) q) a (omega arith)))

  pub next_ext : (i q a : ℕ) → next_layer D R f i q a ≡ next_layer D R g i q a
  unfolding next_layer
  next_ext i q a =
      ap (λ (x : ℕ). cond (is_there D R (suc i) q) (min (D.own (last_at R (suc i) q) a + x) B) B) (reached_ext i q a)

module _ (D : Deck) (R : ℕ) (f g : Layer) (same : (q b : ℕ) → q < state_count R → b < D.poses → f q b ≡ g q b) where
  pub layers_ext : (i d q a : ℕ) → q < state_count R → a < D.poses → layers D R f i d q a ≡ layers D R g i d q a
  unfolding layers
  layers_ext i zero q a x y = same q a x y
  layers_ext i (suc d) q a x y =
      next_ext D R (layers D R f i d) (layers D R g i d) (λ p b v w. layers_ext i d p b v w) (i + d) q a

  pub ends_ext : ends D R f ≡ ends D R g
  unfolding ends
  ends_ext =
      lowest_ext _ _ 0 (state_count R)
      (λ q h.
      ap (λ (x : ℕ). cond (is_there D R D.size q && not (D.tall (last_at R D.size q))) x B)
      (lowest_ext _ _ 0 D.poses
      (λ b k. ap (λ (x : ℕ). x + D.back (last_at R D.size q) b) (same q b (omega arith) (omega arith)))))
