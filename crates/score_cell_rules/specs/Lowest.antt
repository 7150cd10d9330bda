-- What a search through n cells from a on finds: whether any passes a test, and the lowest. On the definition's words.
use Prim.Native.Nat.{ℕ, zero, suc, ◌+◌, ◌≤◌, ◌<◌}
use Rattle.std.specs.Prelude.{◌≡◌, List, Bool, ◌||◌, ◌∷◌, Option, None, Some}
use Rattle.std.proofs.Math.Path.{refl, ap}
use Rattle.std.proofs.Common.{sym, ap₂, ◌∙◌, add-one, length}
use Rattle.std.specs.Option.{MatchOption, option_map}
use Rattle.std.proofs.Math.Bool.{true, false, cond, or-true}
use native.Mathlib.Omega.{arith}
use Rattle.std.proofs.Math.Decide.{ℕ_discrete}
use Rattle.std.specs.List.{list_any, range_with_len, AllWithin, HoldsAt}
use Rattle.definition.specs.Lists.{from, any, keep}
use Rattle.definition.specs.Rules.{lowest}
use Rattle.score_cell_rules.specs.Marks.{marked_in}

-- the lowest cell, counted from 1, or none
abbrev pub LowestIs : ℕ → Option ℕ → Type 0
LowestIs n None = n ≡ 0
LowestIs n (Some cell) = (cell ≡ n) × (0 < cell)

module _ (f : ℕ → Bool) where
  pub any_none : (a n : ℕ) → ((i : ℕ) → a ≤ i → i < a + n → f i ≡ false) → any f (from a n) ≡ false
  any_none a zero h = refl
  any_none a (suc n) h =
      rw (h a (omega arith) (omega arith)) (any_none (suc a) n (λ i g l. h i (omega arith) (omega arith)))

  pub any_found : (a n i : ℕ) → a ≤ i → i < a + n → f i ≡ true → any f (from a n) ≡ true
  any_found a zero i g l t = absurd (omega arith)
  any_found a (suc n) i g l t = go (ℕ_discrete i a) (λ b. any_found (suc a) n i b (omega arith) t)
    where
      go : Dec (i ≡ a) → (suc a ≤ i → any f (from (suc a) n) ≡ true) → (f a || any f (from (suc a) n)) ≡ true
      go (yes e) r = let q : f a ≡ true = ap f (sym e) ∙ t in rw q
      go (no d) r = rw (r (omega arith)) (or-true (f a))

  -- the numbers of a range of the program
  pub any-range : (a n : ℕ) → list_any f (range_with_len a n) ≡ any f (from a n)
  any-range a zero = refl
  any-range a (suc n) = rw add-one (ap (λ t. f a || t) (any-range (suc a) n))

  -- no cell breaks the rule, by what the cells do and by what is found
  pub lowest-none : (a n : ℕ) → ((k : ℕ) → a ≤ k → k < a + n → f k ≡ false) → lowest f (from a n) ≡ 0
  unfolding lowest
  lowest-none a zero h = refl
  lowest-none a (suc n) h =
      rw (h a (omega arith) (omega arith)) (lowest-none (suc a) n (λ k g l. h k (omega arith) (omega arith)))

  pub lowest-first : (a n i : ℕ) → a ≤ i → i < a + n → f i ≡ true → ((k : ℕ) → a ≤ k → k < i → f k ≡ false)
      → lowest f (from a n) ≡ suc i
  unfolding lowest
  lowest-first a zero i g l t h = absurd (omega arith)
  lowest-first a (suc n) i g l t h =
      go (ℕ_discrete i a) (λ b. lowest-first (suc a) n i b (omega arith) t (λ k b c. h k (omega arith) c))
    where
      go : Dec (i ≡ a) → (suc a ≤ i → lowest f (from (suc a) n) ≡ suc i) → lowest f (from a (suc n)) ≡ suc i
      go (yes e) r = let q : f a ≡ true = ap f (sym e) ∙ t in rw q (ap suc (sym e))
      go (no d) r = rw (h a (omega arith) (omega arith)) (r (omega arith))

  pub lowest-zero : (a n : ℕ) → lowest f (from a n) ≡ 0 → (k : ℕ) → a ≤ k → k < a + n → f k ≡ false
  unfolding lowest
  lowest-zero a zero e k h l = absurd (omega arith)
  lowest-zero a (suc n) e k h l =
      go (f a) refl e (ℕ_discrete k a) (λ z c. lowest-zero (suc a) n z k c (omega arith))
    where
      go : (t : Bool) → f a ≡ t → cond t (suc a) (lowest f (from (suc a) n)) ≡ 0 → Dec (k ≡ a)
          → (lowest f (from (suc a) n) ≡ 0 → suc a ≤ k → f k ≡ false) → f k ≡ false
      go true q z d r = absurd (omega arith)
      go false q z (yes c) r = ap f c ∙ q
      go false q z (no c) r = r z (omega arith)

  -- it is a cell of those, or none
  pub lowest-small : (a n : ℕ) → lowest f (from a n) ≤ a + n
  unfolding lowest
  lowest-small a zero = omega arith
  lowest-small a (suc n) = go (f a) (lowest-small (suc a) n)
    where
      go : (t : Bool) → lowest f (from (suc a) n) ≤ suc a + n
          → cond t (suc a) (lowest f (from (suc a) n)) ≤ a + suc n
      go true h = omega arith
      go false h = omega arith

-- two tests that agree on the cells from a on find the same cell
pub lowest-same : (f g : ℕ → Bool) (a n : ℕ) → ((k : ℕ) → a ≤ k → k < a + n → f k ≡ g k)
    → lowest f (from a n) ≡ lowest g (from a n)
unfolding lowest
lowest-same f g a zero h = refl
lowest-same f g a (suc n) h =
    ap₂
    (λ t x. cond t (suc a) x)
    (h a (omega arith) (omega arith))
    (lowest-same f g (suc a) n (λ k b c. h k (omega arith) (omega arith)))

-- one more cell in front of those from k on
module _ (f : ℕ → Bool) (i k n m : ℕ) (e : k ≡ suc i) (q : n ≡ suc m) where
  pub lowest-more : f i ≡ true → lowest f (from i n) ≡ suc i
  unfolding lowest
  lowest-more t = rw (q, t)

  pub lowest-rest : f i ≡ false → lowest f (from i n) ≡ lowest f (from k m)
  unfolding lowest
  lowest-rest t = rw (q, t, e)

  pub keep-more : f i ≡ true → keep f (from i n) ≡ i ∷ keep f (from k m)
  keep-more t = rw (q, t, e)

  pub keep-rest : f i ≡ false → keep f (from i n) ≡ keep f (from k m)
  keep-rest t = rw (q, t, e)

-- ---- all cells that break a rule

-- two tests that agree on the cells from a on keep the same cells
pub keep_same : (f g : ℕ → Bool) (a n : ℕ) → ((k : ℕ) → a ≤ k → k < a + n → f k ≡ g k)
    → keep f (from a n) ≡ keep g (from a n)
keep_same f g a zero h = refl
keep_same f g a (suc n) h =
    ap₂
    (λ t l. cond t (a ∷ l) l)
    (h a (omega arith) (omega arith))
    (keep_same f g (suc a) n (λ k b c. h k (omega arith) (omega arith)))

-- ---- the first mark

-- the place of the first mark
abbrev FirstMark : List Bool → Option ℕ → Type 0
FirstMark xs r =
    MatchOption r (AllWithin (λ x. x ≡ false) xs 0 (length xs))
    (λ i. (i < length xs) × HoldsAt (λ x. x ≡ true) xs i × AllWithin (λ x. x ≡ false) xs 0 i)

pub first_lowest : (marks : List Bool) (r : Option ℕ) → FirstMark marks r
    → LowestIs (lowest (marked_in marks) (from 0 (length marks))) (option_map (λ k. k + 1) r)
first_lowest marks None h = lowest-none (marked_in marks) 0 (length marks) (λ k a b. h k false (omega arith) (omega arith))
first_lowest marks (Some i) h =
    let e = lowest-first (marked_in marks) 0 (length marks) i (omega arith) (omega (arith, h.0)) (h.1 false) (λ k a b. h.2 k false (omega arith) b) in
    (add-one i ∙ sym e, omega arith)
