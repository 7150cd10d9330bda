-- A search that misses every source has not been given what the tables say; so the search for a source hits.
use Rattle.std.specs.Prelude.{ℕ, zero, suc, ◌+◌, ◌*◌, ◌<◌, min, ◌≡◌, Bool, List, Option, None, Some}
use Rattle.std.proofs.Math.Path.{refl, sym, ap}
use Rattle.std.proofs.Common.{◌∙◌}
use Rattle.std.proofs.Math.Bool.{true, false, cond}
use native.Mathlib.Omega.{arith}
use Rattle.search_store.specs.Map.{kept_at}
use Rattle.lists.specs.Numbers.{from}
use Rattle.theory_pair.specs.Coded.{lowest, lowest-from}
use Rattle.theory_tables.specs.Steps.{B, Deck, Layer, state_count, last_at, is_there, is_source, via, reached, next_layer}
use Rattle.theory_tables.specs.Steps.{pose_slots}
use Rattle.search_row.specs.Words.{deck_of}
use Rattle.search_dense_layer.specs.Kept.{kept_in}
use Rattle.search_back_segment.specs.Traces.{First, from_pose, from_state, SourceFits, EntrySource}

-- a loop's least is one of its numbers
pub lowest_missed : (h : ℕ → ℕ) (n v : ℕ) → v < B → ((k : ℕ) → k < n → h k ≡ v → ⊥) → lowest B h (from 0 n) ≡ v → ⊥
unfolding lowest from
lowest_missed h zero v l m e = omega arith
lowest_missed h (suc n) v l m e =
    let r = lowest_missed h n v l (λ k x. m k (omega arith)) in
    let z : 0 + n ≡ n = omega arith in
    let y = ap h z in
    let s = lowest-from B h 0 n in
    let t : (h n ≡ v) → ⊥ = m n (omega arith) in
    omega arith

module _ (D : Deck) (R : ℕ) (f : Layer) (i q a : ℕ) where
  pub state_in_lem : (p b : ℕ) → is_source D R i q p ≡ true
      → from_state D R f i q a p b ≡ f p b + D.toll (last_at R i p) b (last_at R (suc i) q) a
  unfolding from_state
  state_in_lem p b e = ap (λ t. cond t (f p b + D.toll (last_at R i p) b (last_at R (suc i) q) a) B) e

  pub state-out : (p b : ℕ) → is_source D R i q p ≡ false → from_state D R f i q a p b ≡ B
  unfolding from_state
  state-out p b e = ap (λ t. cond t (f p b + D.toll (last_at R i p) b (last_at R (suc i) q) a) B) e

  -- no pose of state p fits
  abbrev pub Misses : ℕ → ℕ → Type 0
  Misses want p = (b : ℕ) → b < D.poses → from_state D R f i q a p b ≡ want → ⊥

  pub reached_missed : (want : ℕ) → want < B → ((p : ℕ) → p < state_count R → Misses want p)
      → reached D R f i q a ≡ want → ⊥
  unfolding reached via from_state
  reached_missed want l m = lowest_missed _ (state_count R) want l λ p x. go p x (is_source D R i q p) (m p x)
    where
      go : (p : ℕ) → p < state_count R → (t : Bool)
          → ((b : ℕ) → b < D.poses → cond t (f p b + D.toll (last_at R i p) b (last_at R (suc i) q) a) B ≡ want → ⊥)
          → cond t (lowest B (λ b. f p b + D.toll (last_at R i p) b (last_at R (suc i) q) a)
          (from 0 D.poses)) B ≡ want → ⊥
      go p x true g = lowest_missed _ D.poses want l g
      go p x false g = λ e. omega arith

  -- a hit
  pub state-fits : (want p b : ℕ) → p < state_count R → b < D.poses → want < B → from_state D R f i q a p b ≡ want
      → SourceFits D R f i q a want p b
  unfolding from_state
  state-fits want p b x y l e = go (is_source D R i q p) refl
    where
      go : (t : Bool) → is_source D R i q p ≡ t → SourceFits D R f i q a want p b
      go true s = record { state = x; pose = y; source = s; sum = sym (state_in_lem p b s) ∙ e }
      go false s = absurd (omega (arith, state-out p b s, e))

  -- an entry below B is its own cost and what it was reached by
  pub next-below : next_layer D R f i q a < B
      → (is_there D R (suc i) q ≡ true) × (next_layer D R f i q a ≡ D.own (last_at R (suc i) q) a + reached D R f i q a)
  unfolding next_layer
  next-below = go (is_there D R (suc i) q) (D.own (last_at R (suc i) q) a + reached D R f i q a)
    where
      go : (t : Bool) (x : ℕ) → cond t (min x B) B < B → (t ≡ true) × (cond t (min x B) B ≡ x)
      go true x l = (refl, omega arith)
      go false x l = absurd (omega arith)

-- a search over a state's poses, which are all or none
pub poses-first : (st row : List ℕ) (n poses R i q a p want : ℕ) {at k m : ℕ} (o : Option ℕ)
    → is_source (deck_of row n poses) R i q p ≡ true → at ≡ kept_at i + p * pose_slots → k ≡ last_at R i p
    → m ≡ last_at R (suc i) q
    → First (from_pose st row at k m a) poses want o
    → First (from_state (deck_of row n poses) R (kept_in st i) i q a p) poses want o
poses-first st row n poses R i q a p want {at} {k} {m} o s x y z = go o
  where
    same : (b : ℕ) → from_state (deck_of row n poses) R (kept_in st i) i q a p b ≡ from_pose st row at k m a b
    same b = state_in_lem (deck_of row n poses) R (kept_in st i) i q a p b s ∙ rw (x, y, z) refl

    go : (o : Option ℕ) → First (from_pose st row at k m a) poses want o
        → First (from_state (deck_of row n poses) R (kept_in st i) i q a p) poses want o
    go None w = λ b h e. w b h (sym (same b) ∙ e)
    go (Some r) w = (w.0, same r ∙ w.1, λ b h e. w.2 b h (sym (same b) ∙ e))

pub poses-none : (D : Deck) (R : ℕ) (f : Layer) (i q a p want : ℕ) → is_source D R i q p ≡ false → want < B
    → First (from_state D R f i q a p) D.poses want None
poses-none D R f i q a p want s l = λ b h e. omega (arith, state-out D R f i q a p b s, e)

-- the source of a kept entry
pub entry-source : (D : Deck) (R : ℕ) (st : List ℕ) (i q a : ℕ) {want p b : ℕ}
    → SourceFits D R (kept_in st i) i q a want p b → kept_in st (suc i) q a ≡ D.own (last_at R (suc i) q) a + want
    → EntrySource D R st i q a p b
entry-source D R st i q a w e =
    record {
      state = w.state;
      pose = w.pose;
      source = w.source;
      sum = e ∙ ap (λ (x : ℕ). D.own (last_at R (suc i) q) a + x) (sym w.sum);
    }

-- what an entry's cost is made of
pub entry-parts : (D : Deck) (R : ℕ) (st : List ℕ) (i q a : ℕ)
    → kept_in st (suc i) q a ≡ next_layer D R (kept_in st i) i q a → kept_in st (suc i) q a < B
    → (is_there D R (suc i) q ≡ true)
    × (kept_in st (suc i) q a ≡ D.own (last_at R (suc i) q) a + reached D R (kept_in st i) i q a)
entry-parts D R st i q a e l =
    let w = next-below D R (kept_in st i) i q a (omega arith) in
    (w.0, e ∙ w.1)
