-- A row whose cells stand in file order: which sites each may take, and which sites they cover. A cell's sites go by
-- numbers. The row's left end is like a cell that ends at site 0. Definitions.
use Rattle.std.specs.Prelude.{ℕ, zero, suc, ◌+◌, ◌≤◌, ◌<◌, ◌≡◌, ◌≢◌, Bool, true, false, ◌&&◌, ◌||◌, List, [], ◌∷◌, leb, ltb}

pub record FileRow : Type 0 where
  pub size : ℕ
  pub wide : ℕ → ℕ
  -- how many site numbers a cell has, the site of each, and whether the cell may take it
  pub site_numbers : ℕ
  pub site : ℕ → ℕ → ℕ
  pub ok : ℕ → ℕ → Bool

-- where the last of p cells starts and ends, at its site number t
abbrev pub start_of : FileRow → ℕ → ℕ → ℕ
start_of L zero t = 0
start_of L (suc p) t = L.site p t

abbrev pub end_of : FileRow → ℕ → ℕ → ℕ
end_of L zero t = 0
end_of L (suc p) t = L.site p t + L.wide p

-- cell p may stand at its site number t, right of what ends at a: rules 1 to 5, and 8
pub record Follows (L : FileRow) (p a t : ℕ) : Type 0 where
  pub there : p < L.size
  pub numbered : t < L.site_numbers
  pub ok : L.ok p t ≡ true
  pub clear : a ≤ L.site p t
  pub no_gap_one : L.site p t ≢ suc a

-- the cells from p on at the site numbers ts, right of what ends at a
abbrev pub RowFrom : FileRow → ℕ → ℕ → List ℕ → Type 0
RowFrom L p a [] = p ≡ L.size
RowFrom L p a (t ∷ ts) = Follows L p a t × RowFrom L (suc p) (L.site p t + L.wide p) ts

-- the first of them is not left of z
abbrev pub StartsFrom : FileRow → ℕ → ℕ → List ℕ → Type 0
StartsFrom L p z [] = Unit {0}
StartsFrom L p z (t ∷ ts) = z ≤ L.site p t

-- whether one of them covers site s
abbrev pub covers : FileRow → ℕ → List ℕ → ℕ → Bool
covers L p [] s = false
covers L p (t ∷ ts) s = (leb (L.site p t) s && ltb s (L.site p t + L.wide p)) || covers L (suc p) ts s
