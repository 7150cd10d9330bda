-- Marks: a list with an entry for each cell, true if it breaks a rule. How they are made, and read.
use Rattle.std.specs.Prelude.{ℕ, zero, suc, ◌+◌, ◌≤◌, ◌<◌, ◌≡◌, Bool, true, false, ◌||◌, List, ◌∷◌, ◌++◌, length, get_or, take, set, replicate}
use Rattle.std.proofs.Math.Path.{refl, ap}
use Rattle.std.proofs.Math.Bool.{or_comm, or-false}
use Rattle.std.proofs.Common.{◌∙◌, append_assoc, arith, length-set, get_or-set_same, get_or-set_other, take-suc-set, below_more}
use Rattle.definition.specs.Job.{max_cells}

abbrev pub marked_in : List Bool → ℕ → Bool
marked_in marks k = get_or marks k false

-- the marks of cells, and an array with an entry for each
pub record Arrays (marks : List Bool) (b : List ℕ) : Type 0 where
  pub few : length marks ≤ max_cells
  pub right : length b ≡ max_cells

-- before and after: those cells that pass a test have been marked too
pub record Added (f : ℕ → Bool) (marks marks' : List Bool) : Type 0 where
  pub long : length marks' ≡ length marks
  pub each : (k : ℕ) → k < length marks → marked_in marks' k ≡ (f k || marked_in marks k)

-- no cell is marked
pub record Unmarked (marks : List Bool) : Type 0 where
  pub none : (k : ℕ) → k < length marks → marked_in marks k ≡ false

-- the first r entries of an array of 64 are a list of cells
pub record CellsListed (cells : List ℕ) (r : ℕ) (array : List ℕ) : Type 0 where
  pub few : r ≤ max_cells
  pub long : length array ≡ max_cells
  pub entries : take r array ≡ cells

-- ---- one test, another

-- of a test that no cell passes none
pub added_none : (f : ℕ → Bool) (m : List Bool) → ((k : ℕ) → k < length m → f k ≡ false) → Added f m m
added_none f m h = record { long = refl; each = λ k b. rw (h k b) }

-- a test that agrees on the cells
pub added-below : (f g : ℕ → Bool) (m m' : List Bool) → ((k : ℕ) → k < length m → f k ≡ g k) → Added f m m' → Added g m m'
added-below f g m m' h a = record { long = a.long; each = λ k b. a.each k b ∙ ap (λ t. t || marked_in m k) (h k b) }

-- two tests, one after the other
pub added-both : (f g : ℕ → Bool) (m₀ m₁ m₂ : List Bool) → Added f m₀ m₁ → Added g m₁ m₂ → Added (λ k. f k || (g k || false)) m₀ m₂
added-both f g m₀ m₁ m₂ p q = record {
  long = q.long ∙ p.long;
  each = λ k c. q.each k (omega (arith, p.long)) ∙ ap (λ t. g k || t) (p.each k c) ∙ go (f k) (g k) (marked_in m₀ k);
}
  where
    go : (s t x : Bool) → (t || (s || x)) ≡ ((s || (t || false)) || x)
    go true true x = refl
    go true false x = refl
    go false true x = refl
    go false false x = refl

-- ---- marks where there were none

pub unmarked_fresh : (n m : ℕ) → Unmarked (take n (replicate m false))
unmarked_fresh n m = record { none = λ k _. none n m k }
  where
    none : (n m k : ℕ) → marked_in (take n (replicate m false)) k ≡ false
    none zero m k = refl
    none (suc n) zero k = refl
    none (suc n) (suc m) zero = refl
    none (suc n) (suc m) (suc k) = none n m k

module _ {m : List Bool} (u : Unmarked m) {f : ℕ → Bool} {m' : List Bool} (a : Added f m m') where
  pub marked-is : (k : ℕ) → k < length m' → marked_in m' k ≡ f k
  marked-is k h =
      let l : k < length m = omega (arith, a.long) in
      a.each k l ∙ ap (λ t. f k || t) (u.none k l) ∙ or-false (f k)

  pub unmarked_still : ((k : ℕ) → k < length m' → f k ≡ false) → Unmarked m'
  unmarked_still h = record { none = λ k l. marked-is k l ∙ h k l }

-- ---- a test of each cell, by what it answered

-- each cell was marked if its test answered so
pub record Tried (Test : ℕ → Bool → Type 0) (marks marks' : List Bool) : Type 0 where
  pub long : length marks' ≡ length marks
  pub each : (k : ℕ) → k < length marks → (b : Bool) × Test k b × (marked_in marks' k ≡ (b || marked_in marks k))

-- each below n, and the marks from n on are as they were
pub record Trying (n : ℕ) (Test : ℕ → Bool → Type 0) (marks marks' : List Bool) : Type 0 where
  pub long : length marks' ≡ length marks
  pub each : (k : ℕ) → k < n → (b : Bool) × Test k b × (marked_in marks' k ≡ (b || marked_in marks k))
  pub rest : (k : ℕ) → n ≤ k → marked_in marks' k ≡ marked_in marks k

module _ {Test : ℕ → Bool → Type 0} {m m' : List Bool} where
  pub tried-added : (f : ℕ → Bool) → Tried Test m m' → ((k : ℕ) (b : Bool) → k < length m → Test k b → b ≡ f k) → Added f m m'
  tried-added f t h = record {
    long = t.long;
    each = λ k l. let x = t.each k l in x.2 ∙ ap (λ b. b || marked_in m k) (h k x.0 l x.1);
  }

  -- one cell more
  pub trying-more : {n : ℕ} → Trying n Test m m' → n < length m' → (b : Bool) → Test n b
      → Trying (n + 1) Test m (set m' n (marked_in m' n || b))
  trying-more {n} p l b t =
      let x : Bool = marked_in m' n || b in
      record {
        long = simp length-set p.long;
        each = below_more _ _
            (λ k h. let y = p.each k h in (y.0, y.1, get_or-set_other m' n k x false (λ e. omega arith) ∙ y.2))
            (b, t, get_or-set_same m' n x false l ∙ or_comm (marked_in m' n) b ∙ ap (λ y. b || y) (p.rest n (omega arith)));
        rest = λ k g. get_or-set_other m' n k x false (λ e. omega arith) ∙ p.rest k (omega arith);
      }

-- ---- a list of cells: one more, which is x, behind the first n
pub taken_more : (l : List ℕ) (n m x k : ℕ) (t : List ℕ) → m ≡ suc n → x ≡ k → n < length l
    → take n l ++ (k ∷ t) ≡ take m (set l n x) ++ t
taken_more l n m x k t e f h = rw (e, f, take-suc-set l n k h, append_assoc)
