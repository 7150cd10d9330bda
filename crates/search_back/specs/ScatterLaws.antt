-- One place more; and one row after the other, where tall cells have the same pose number in both.
use Rattle.std.specs.Prelude.{ℕ, zero, suc, ◌+◌, ◌/◌, ◌≤◌, ◌<◌, ◌≡◌, refl, ◌⊎◌, List, length, get_or, set}
use Rattle.std.proofs.Common.{sym, ap, ◌∙◌, inl, inr, arith, length-set, get_or-set_same, get_or-set_other}
use Rattle.std.proofs.Math.Decide.{ℕ_discrete}
use Rattle.theory_tables.specs.Steps.{pose_slots}
use Rattle.search_back.specs.Scatter.{cell_at, pose_at, ScatterGiven, ScatteredBelow, Scattered}

pub upto-none : (row path st : List ℕ) → ScatteredBelow row path 1 st st
upto-none row path st = record { long = refl; done = λ i h l. absurd (omega arith); kept = λ c h. refl }

-- places with the same cell are the same
pub cells-apart : {row path out : List ℕ} {n : ℕ} → ScatterGiven row path out n → (i j : ℕ) → 0 < i → i < j → j ≤ n
    → cell_at row path i ≡ cell_at row path j → ⊥
cells-apart {row} {path} g i j h l m e =
    let p = g.places in
    p.distinct i j h l m
    (g.apart (get_or path i 0 / pose_slots) (get_or path j 0 / pose_slots) (p.inside i h (omega arith))
    (p.inside j (omega arith) m) e)

pub upto-more : {row path old new out : List ℕ} {n : ℕ} (m c v : ℕ)
    → ScatterGiven row path out n → 0 < m → m ≤ n → c ≡ cell_at row path m → v ≡ pose_at path m → c < length old
    → ScatteredBelow row path m old new
    → ScatteredBelow row path (m + 1) old (set new c v)
upto-more {row} {path} {old} {new} m c v g h l e f r w =
    record {
      long = length-set new c v ∙ w.long;
      done = λ i x y. done i x y (ℕ_discrete i m);
      kept = λ d x. get_or-set_other new c d v 0 (λ z. x m h (omega arith) (sym e ∙ sym z))
          ∙ w.kept d (λ i y z. x i y (omega arith));
    }
  where
    done : (i : ℕ) → 0 < i → i < m + 1 → Dec (i ≡ m) → get_or (set new c v) (cell_at row path i) 0 ≡ pose_at path i
    done i x y (yes z) = rw (z, sym e) (get_or-set_same new c v 0 (omega (arith, w.long)) ∙ f)
    done i x y (no z) = get_or-set_other new c (cell_at row path i) v 0 (λ u. cells-apart g i m x (omega arith) l (u ∙ e))
        ∙ w.done i x (omega arith)

pub upto_all : {row path old new : List ℕ} {n : ℕ} (m : ℕ) → m ≡ n + 1 → ScatteredBelow row path m old new
    → Scattered row path n old new
upto_all m e w = record {
  long = w.long;
  done = λ i h l. w.done i h (omega arith);
  kept = λ c x. w.kept c (λ i h l. x i h (omega arith));
}

-- ---- one row after the other

-- a cell is at a place, or at none
placed? : (row path : List ℕ) (c n : ℕ)
    → ((i : ℕ) × (0 < i) × (i ≤ n) × (cell_at row path i ≡ c)) ⊎ ((i : ℕ) → 0 < i → i ≤ n → cell_at row path i ≡ c → ⊥)
placed? row path c zero = inr (λ i h l. absurd (omega arith))
placed? row path c (suc n) = go (ℕ_discrete (cell_at row path (suc n)) c) (placed? row path c n)
  where
    go : Dec (cell_at row path (suc n) ≡ c) → ((i : ℕ) × (0 < i) × (i ≤ n) × (cell_at row path i ≡ c))
        ⊎ ((i : ℕ) → 0 < i → i ≤ n → cell_at row path i ≡ c → ⊥)
        → ((i : ℕ) × (0 < i) × (i ≤ suc n) × (cell_at row path i ≡ c))
        ⊎ ((i : ℕ) → 0 < i → i ≤ suc n → cell_at row path i ≡ c → ⊥)
    go (yes e) r = inl (suc n, omega arith, omega arith, e)
    go (no d) (inl (i, h, l, e)) = inl (i, h, omega arith, e)
    go (no d) (inr x) = inr (λ i h l e. last i h l e (ℕ_discrete i (suc n)))
      where
        last : (i : ℕ) → 0 < i → i ≤ suc n → cell_at row path i ≡ c → Dec (i ≡ suc n) → ⊥
        last i h l e (yes z) = d (ap (cell_at row path) (sym z) ∙ e)
        last i h l e (no z) = x i h (omega arith) e

-- row 0's pose numbers stay, if row 1 has the same for the cells of both
pub both_scattered : {row₀ row₁ path₀ path₁ old mid new : List ℕ} {n₀ n₁ : ℕ} → Scattered row₀ path₀ n₀ old mid
    → Scattered row₁ path₁ n₁ mid new
    → ((i j : ℕ) → 0 < i → i ≤ n₀ → 0 < j → j ≤ n₁ → cell_at row₀ path₀ i ≡ cell_at row₁ path₁ j
    → pose_at path₀ i ≡ pose_at path₁ j)
    → (i : ℕ) → 0 < i → i ≤ n₀ → get_or new (cell_at row₀ path₀ i) 0 ≡ pose_at path₀ i
both_scattered {row₀} {row₁} {path₀} {path₁} {new = new} {n₁ = n₁} v w agree i h l =
    go (placed? row₁ path₁ (cell_at row₀ path₀ i) n₁)
  where
    go : ((j : ℕ) × (0 < j) × (j ≤ n₁) × (cell_at row₁ path₁ j ≡ cell_at row₀ path₀ i))
        ⊎ ((j : ℕ) → 0 < j → j ≤ n₁ → cell_at row₁ path₁ j ≡ cell_at row₀ path₀ i → ⊥)
        → get_or new (cell_at row₀ path₀ i) 0 ≡ pose_at path₀ i
    go (inl (j, x, y, e)) = ap (λ (c : ℕ). get_or new c 0) (sym e) ∙ w.done j x y ∙ sym (agree i j h l x y (sym e))
    go (inr x) = w.kept (cell_at row₀ path₀ i) x ∙ v.done i h l

-- pose numbers stay below pose_slots
pub scattered_small : {row path old new : List ℕ} {n : ℕ} → Scattered row path n old new
    → ((c : ℕ) → get_or old c 0 < pose_slots)
    → (c : ℕ) → get_or new c 0 < pose_slots
scattered_small {row} {path} {old} {new} {n} w h c = go (placed? row path c n)
  where
    go : ((i : ℕ) × (0 < i) × (i ≤ n) × (cell_at row path i ≡ c)) ⊎ ((i : ℕ) → 0 < i → i ≤ n → cell_at row path i ≡ c → ⊥)
        → get_or new c 0 < pose_slots
    go (inl (i, x, y, e)) =
        let d : get_or new c 0 ≡ pose_at path i = ap (λ (k : ℕ). get_or new k 0) (sym e) ∙ w.done i x y in
        omega arith
    go (inr x) = let d = w.kept c x in omega (arith, h c)
