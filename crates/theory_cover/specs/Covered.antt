-- How many sites the rest of two rows covers anew: one cell more covers its own new sites, and what is left then covers
-- the others.
use Rattle.std.specs.Prelude.{ℕ, ◌+◌, max, ◌≤◌, Bool, ◌&&◌, ◌||◌, cond, List, leb}
use Rattle.lists.specs.Numbers.{from}
use Rattle.theory_row.specs.Rules.{sum}
use Rattle.theory_cover.specs.FileRow.{FileRow, start_of, end_of, Follows, RowFrom, StartsFrom, covers}

-- ---- the sites from e on, of n, that one of two tests covers

abbrev covered_at : (ℕ → Bool) → (ℕ → Bool) → ℕ → ℕ → ℕ
covered_at g h e s = cond (leb e s && (g s || h s)) 1 0

abbrev pub covered : (ℕ → Bool) → (ℕ → Bool) → ℕ → ℕ → ℕ
covered g h e n = sum (covered_at g h e) (from 0 n)

-- ---- the rest of both rows

-- the cells from p and from q on, at the site numbers ts and us, added after cell p - 1 at t and cell q - 1 at u
pub record RowsFrom (L M : FileRow) (p t q u : ℕ) (ts us : List ℕ) : Type 0 where
  pub row₀ : RowFrom L p (end_of L p t) ts
  pub row₁ : RowFrom M q (end_of M q u) us
  pub rises₀ : StartsFrom L p (max (start_of L p t) (start_of M q u)) ts
  pub rises₁ : StartsFrom M q (max (start_of L p t) (start_of M q u)) us

-- how many of the n sites they cover anew
abbrev pub anew : FileRow → FileRow → ℕ → ℕ → ℕ → ℕ → ℕ → List ℕ → List ℕ → ℕ
anew L M n p t q u ts us = covered (covers L p ts) (covers M q us) (max (end_of L p t) (end_of M q u)) n

-- no cell passes site n, the row's end
abbrev pub Inside : FileRow → ℕ → Type 0
Inside L n = (p a t : ℕ) → Follows L p a t → L.site p t + L.wide p ≤ n
