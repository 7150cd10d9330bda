-- One row, whole: a legal row is a path from the row's start to its end, and back; and where its tall cells stand.
use Rattle.std.specs.Prelude.{Bool, ℕ, zero, suc, ◌+◌, ◌<◌}
use mathlib.Core.List.{List, [], ◌∷◌, Memᴰ as In}
use Rattle.std.proofs.Math.Bool.{cond}
use Rattle.lists.specs.Numbers.{from}
use Rattle.theory_row.specs.Order.{order}
use Rattle.theory_row.specs.Rules.{sum, sum_neighbours}
use Rattle.theory_row.specs.Row.{LegalSites}
use Rattle.theory_pair.specs.Pick.{pick}
use Rattle.theory_pair.specs.Segment.{Line, Choice}
use Rattle.theory_pair.specs.Ends.{Ended}

module _ {A : Type 0} (site_of : A → ℕ) (L : Line A) (g : ℕ → A) where
  abbrev pub site_in : ℕ → ℕ
  site_in k = site_of (g k)

  abbrev pub wide_in : ℕ → ℕ
  wide_in k = L.wide k (g k)

  abbrev pub mine : ℕ → ℕ
  mine k = L.own k (g k)

  abbrev pub ours : ℕ → ℕ → ℕ
  ours a b = L.pay (a, g a) (b, g b)

  abbrev pub opens_in : ℕ → Bool
  opens_in k = L.opens k (g k)

  abbrev pub closes_in : ℕ → Bool
  closes_in k = L.closes k (g k)

  -- what a row costs
  abbrev pub row_total : ℕ
  row_total = sum mine (from 0 L.size) + sum_neighbours ours (order site_in L.size)

-- a row whose cells stand as offered, legally, and with ends that are allowed
pub record RowPlaced {A : Type 0} (R : ℕ) (site_of : A → ℕ) (L : Line A) (g : ℕ → A) : Type 0 where
  pub offered : (k : ℕ) → k < L.size → In (g k) (L.options k)
  pub legal : LegalSites R (site_in site_of L g) (wide_in site_of L g) L.size
  pub ended : Ended (opens_in site_of L g) (closes_in site_of L g) (order (site_in site_of L g) L.size)

abbrev pub Wide : {A : Type 0} → Line A → Type 0
Wide {A = A} L = (k : ℕ) (a : A) → In a (L.options k) → 0 < L.wide k a

-- ---- the tall ones of a list

abbrev pub talls : {A : Type 0} → Line A → List ℕ → List ℕ
talls L l = pick L.tall l

unfoldable pub tall_of : {A : Type 0} → Line A → List (Choice A) → List (Choice A)
tall_of L [] = []
tall_of L (c ∷ p) = cond (L.tall c.0) (c ∷ tall_of L p) (tall_of L p)

-- ---- the tall cells of a row, in file order: pos 0, pos 1, ..

unfoldable pub posts : (ℕ → ℕ) → ℕ → ℕ → List ℕ
posts pos i zero = []
posts pos i (suc d) = pos i ∷ posts pos (suc i) d

-- with poses: the first is pos i's
unfoldable pub picks : {A : Type 0} → (ℕ → ℕ) → ℕ → List A → List (Choice A)
picks pos i [] = []
picks pos i (a ∷ l) = (pos i, a) ∷ picks pos (suc i) l

-- the poses h i, h (i + 1), ..
unfoldable pub poses : {A : Type 0} → (ℕ → A) → ℕ → ℕ → List A
poses h i zero = []
poses h i (suc d) = h i ∷ poses h (suc i) d
