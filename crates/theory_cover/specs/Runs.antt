-- The ways on by a row's next cell, for every end of the cell before it: what the next cell covers anew does not depend
-- on that end, only which of its sites are left does. So the least values from the right answer for every end.
use Prim.Native.Nat.{ℕ, ◌+◌, ◌-◌}
use Rattle.std.specs.Prelude.{◌&&◌, leb}
use Rattle.std.proofs.Math.Bool.{cond}
use Rattle.lists.specs.Numbers.{from}
use Rattle.theory_pair.specs.Coded.{lowest}
use Rattle.theory_tables.specs.Steps.{B}
use Rattle.theory_cover.specs.FileRow.{FileRow}
use Rattle.theory_cover.specs.Recurrence.{clears, cover_by_way}

-- the least of G from k on, below n
abbrev pub low_from : (ℕ → ℕ) → ℕ → ℕ → ℕ
low_from G n k = lowest B G (from k (n - k))

-- the least of G over the site numbers below n that clear the end a; sites go up by one, and the first is g
abbrev pub low_clear : (ℕ → ℕ) → ℕ → ℕ → ℕ → ℕ
low_clear G n a g = lowest B (λ t. cond (clears a (g + t)) (G t) B) (from 0 n)

-- ---- the ways on by cell p of a row

-- what its site number t comes to, whatever the end of the cell before: the other row's last cell starts at z
abbrev pub way_at : FileRow → ℕ → ℕ → ℕ → (ℕ → ℕ) → ℕ → ℕ
way_at L p b z rest t = cond (L.ok p t && leb z (L.site p t)) (cover_by_way L p b rest t) B
