-- Rules 4, 5 and 6 for a row in general, and the sum over neighbours. The row has n cells, numbered from 0
-- in file order; cell k stands at site k and is wide k sites wide. Each rule is a test of one cell, and
-- then a statement about the row; the two agree.
use Rattle.std.specs.Prelude.{◌≡◌, ◌≢◌, ◌⊎◌, Bool, false, not, ◌&&◌, ◌||◌, cond, ℕ, suc, ◌+◌, ◌≤◌, ◌<◌, ltb}
use mathlib.Core.List.{List, [], ◌∷◌}
use Rattle.std.proofs.Math.Dec.{eqb}
use Rattle.lists.specs.Numbers.{from}
use Rattle.lists.specs.Neighbours.{Chain}
use Rattle.theory_row.specs.Order.{order, place}

-- ---- definitions

-- some entry of l passes the test
unfoldable pub any : (ℕ → Bool) → List ℕ → Bool
any f [] = false
any f (x ∷ l) = f x || any f l

-- some two neighbours in a ∷ l pass the test; some two neighbours in a list
unfoldable pub any_next : (ℕ → ℕ → Bool) → ℕ → List ℕ → Bool
any_next f a [] = false
any_next f a (b ∷ l) = f a b || any_next f b l

abbrev pub any_neighbours : (ℕ → ℕ → Bool) → List ℕ → Bool
any_neighbours f [] = false
any_neighbours f (a ∷ l) = any_next f a l

-- the sum of f over the entries of l
unfoldable pub sum : (ℕ → ℕ) → List ℕ → ℕ
sum f [] = 0
sum f (x ∷ l) = f x + sum f l

-- the sum of f over the neighbours in a ∷ l; over those in a list
unfoldable pub sum_next : (ℕ → ℕ → ℕ) → ℕ → List ℕ → ℕ
sum_next f a [] = 0
sum_next f a (b ∷ l) = f a b + sum_next f b l

abbrev pub sum_neighbours : (ℕ → ℕ → ℕ) → List ℕ → ℕ
sum_neighbours f [] = 0
sum_neighbours f (a ∷ l) = sum_next f a l

module _ (site wide : ℕ → ℕ) where
  -- the first site right of cell k
  abbrev pub end : ℕ → ℕ
  end k = site k + wide k

  -- cells a and b share a site: each begins left of the other's end
  abbrev pub share : ℕ → ℕ → Bool
  share a b = ltb (site a) (end b) && ltb (site b) (end a)

  -- just one empty site between a and its right neighbour b
  abbrev pub gap_one : ℕ → ℕ → Bool
  gap_one a b = eqb (site b) (end a + 1)

  -- rule 4: cell k shares a site with another
  unfoldable pub breaks4 : ℕ → ℕ → Bool
  breaks4 n k = any (λ b. not (eqb b k) && share k b) (from 0 n)

  -- rule 5: cell k and a neighbour have just one empty site between them
  unfoldable pub breaks5 : ℕ → ℕ → Bool
  breaks5 n k = any_neighbours (λ a b. (eqb k a || eqb k b) && gap_one a b) (order site n)

-- rule 6: cell k's place from the left and its place in file order differ by more than R
unfoldable pub breaks6 : ℕ → (ℕ → ℕ) → ℕ → ℕ → Bool
breaks6 R site n k = ltb (k + R) (place k (order site n)) || ltb (place k (order site n) + R) k

-- the lowest cell that breaks a rule, numbered from 1; 0 if none does
unfoldable pub lowest : (ℕ → Bool) → List ℕ → ℕ
lowest f [] = 0
lowest f (k ∷ l) = cond (f k) (suc k) (lowest f l)

-- ---- the rules as statements

abbrev pub Clear : (ℕ → ℕ) → (ℕ → ℕ) → ℕ → ℕ → Type 0
Clear site wide a b = site a + wide a ≤ site b

abbrev pub NoGapOne : (ℕ → ℕ) → (ℕ → ℕ) → ℕ → ℕ → Type 0
NoGapOne site wide a b = site b ≢ site a + wide a + 1

abbrev pub Rule4 : (ℕ → ℕ) → (ℕ → ℕ) → ℕ → Type 0
Rule4 site wide n = (a b : ℕ) → a < n → b < n → a ≢ b → Clear site wide a b ⊎ Clear site wide b a

abbrev pub Rule5 : (ℕ → ℕ) → (ℕ → ℕ) → ℕ → Type 0
Rule5 site wide n = Chain (NoGapOne site wide) (order site n)

abbrev pub Rule6 : ℕ → (ℕ → ℕ) → ℕ → Type 0
Rule6 R site n = (k : ℕ) → k < n → (place k (order site n) ≤ k + R) × (k ≤ place k (order site n) + R)

-- no cell of the row breaks the rule
abbrev pub None : (ℕ → Bool) → ℕ → Type 0
None f n = (k : ℕ) → k < n → f k ≡ false
