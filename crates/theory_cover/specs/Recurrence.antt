-- The fewest sites that two rows cover, as a recurrence by numbers: cells are added by rising site over both rows, and
-- a new cell covers its sites but for those that the other row's last cell covers already.
use Rattle.std.specs.Prelude.{ℕ, zero, suc, ◌+◌, ◌-◌, min, max, ◌≤◌, ◌≡◌, Bool, not, ◌&&◌, leb, ltb, eqb}
use Rattle.std.proofs.Math.Bool.{cond}
use Rattle.lists.specs.Numbers.{from}
use Rattle.theory_pair.specs.Coded.{lowest}
use Rattle.theory_tables.specs.Steps.{B}
use Rattle.theory_cover.specs.FileRow.{FileRow, start_of, end_of, Follows}

-- what a cell at x, w wide, covers anew where the other row's last cell ends at b
abbrev pub new_sites : ℕ → ℕ → ℕ → ℕ
new_sites b x w = (x + w) - max b x

-- site x is at the end a, or two or more sites right of it
abbrev pub clears : ℕ → ℕ → Bool
clears a x = leb a x && not (eqb x (suc a))

-- cell p may be added at site number t: right of what ends at a in its row, and not left of z, where the last cell was
-- added
abbrev pub may_follow : FileRow → ℕ → ℕ → ℕ → ℕ → Bool
may_follow L p a z t = ltb p L.size && (L.ok p t && (leb z (L.site p t) && clears a (L.site p t)))

-- by way of cell p, where `rest t` is left to be covered after its site number t
abbrev pub cover_by_way : FileRow → ℕ → ℕ → (ℕ → ℕ) → ℕ → ℕ
cover_by_way L p b rest t = new_sites b (L.site p t) (L.wide p) + rest t

unfoldable pub onward : FileRow → ℕ → ℕ → ℕ → ℕ → (ℕ → ℕ) → ℕ
onward L p a b z rest = lowest B (λ t. cond (may_follow L p a z t) (cover_by_way L p b rest t) B) (from 0 L.site_numbers)

-- the fewest sites that d cells cover anew, after p cells of one row, the last at its site number t, and q of the
-- other, the last at u; B if there is no way
unfoldable pub fewest : FileRow → FileRow → ℕ → ℕ → ℕ → ℕ → ℕ → ℕ
fewest L M zero p t q u = 0
fewest L M (suc d) p t q u =
    min (onward L p (end_of L p t) (end_of M q u) (max (start_of L p t) (start_of M q u)) (λ v. fewest L M d (suc p) v q u))
    (onward M q (end_of M q u) (end_of L p t) (max (start_of L p t) (start_of M q u)) (λ v. fewest L M d p t (suc q) v))

-- ---- no way by cell p covers fewer sites; below B there is a way that covers just so many

module _ (L : FileRow) (p a b z : ℕ) (rest : ℕ → ℕ) where
  -- a site number by which it is met
  pub record OnwardBy : Type 0 where
    pub number : ℕ
    pub follows : Follows L p a number
    pub rises : z ≤ L.site p number
    pub met : cover_by_way L p b rest number ≡ onward L p a b z rest
