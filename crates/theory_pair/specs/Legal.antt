-- A pair of rows by its cells, numbered from 0 in file order, each in row 0, in row 1 or tall; one pose for each.
-- Which placements are legal, and what they cost.
use Rattle.std.specs.Prelude.{◌≡◌, Bool, true, false, ℕ, ◌+◌, ◌≤◌, ◌<◌}
use mathlib.Core.List.{List, Memᴰ as In}
use Rattle.lists.specs.Numbers.{from}
use Rattle.theory_row.specs.Order.{sort}
use Rattle.theory_row.specs.Rules.{sum, sum_neighbours}
use Rattle.theory_pair.specs.Pick.{pick}
use Rattle.theory_pair.specs.Ends.{Ended}
use Rattle.theory_pair.specs.Members.{RowLegal}

pub data Side : Type 0 where
  row₀ row₁ : Side

-- in one row, or tall
pub data Kind : Type 0 where
  one : Side → Kind
  both : Kind

pub record PairJob (A : Type 0) : Type 0 where
  pub count : ℕ
  pub kind : ℕ → Kind
  pub offers : ℕ → List A
  pub wide : ℕ → A → ℕ
  pub own : ℕ → A → ℕ
  pub pay : Side → ℕ × A → ℕ × A → ℕ
  -- whether a cell may be the first of its rows in a pose, and the last
  pub opens : ℕ → A → Bool
  pub closes : ℕ → A → Bool

abbrev pub in_row : Side → Kind → Bool
in_row row₀ (one row₀) = true
in_row row₀ (one row₁) = false
in_row row₁ (one row₀) = false
in_row row₁ (one row₁) = true
in_row row₀ both = true
in_row row₁ both = true

abbrev pub is_tall : Kind → Bool
is_tall (one s) = false
is_tall both = true

-- a tall cell's own cost counts in row 0
abbrev pub own_in : Side → Kind → ℕ → ℕ
own_in row₀ k x = x
own_in row₁ (one s) x = x
own_in row₁ both x = 0

module _ {A : Type 0} (J : PairJob A) where
  -- the cells of a row, in file order
  unfoldable pub members : Side → List ℕ
  members s = pick (λ k. in_row s (J.kind k)) (from 0 J.count)

  -- the tall cells, in file order
  unfoldable pub tall_cells : List ℕ
  tall_cells = pick (λ k. is_tall (J.kind k)) (from 0 J.count)

module _ {A : Type 0} (site_of : A → ℕ) (J : PairJob A) (f : ℕ → A) where
  abbrev pub site : ℕ → ℕ
  site k = site_of (f k)

  abbrev pub width : ℕ → ℕ
  width k = J.wide k (f k)

  -- the cells of a row from left to right
  abbrev pub row_order : Side → List ℕ
  row_order s = sort site (members J s)

  -- the ends of a row are allowed
  abbrev pub RowEnded : Side → Type 0
  RowEnded s = Ended (λ k. J.opens k (f k)) (λ k. J.closes k (f k)) (row_order s)

  -- what neighbours pay in a row
  abbrev pub neighbours : Side → ℕ
  neighbours s = sum_neighbours (λ a b. J.pay s (a, f a) (b, f b)) (row_order s)

  abbrev pub total : ℕ
  total = sum (λ k. J.own k (f k)) (from 0 J.count) + (neighbours row₀ + neighbours row₁)

-- rules 1 to 3 are in what is offered, 4 to 6 in rows, 7 in order, and what the ends allow in ended
pub record LegalPair {A : Type 0} (R : ℕ) (site_of : A → ℕ) (J : PairJob A) (f : ℕ → A) : Type 0 where
  pub offered : (k : ℕ) → k < J.count → In (f k) (J.offers k)
  pub rows : (s : Side) → RowLegal R (site site_of J f) (width site_of J f) (members J s)
  pub talls_in_order : (j k : ℕ) → j < k → k < J.count → is_tall (J.kind j) ≡ true → is_tall (J.kind k) ≡ true
      → site_of (f j) ≤ site_of (f k)
  pub ended : (s : Side) → RowEnded site_of J f s
