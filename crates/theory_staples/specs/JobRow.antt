-- A row of a job in file order, by the numbers of the sites at which its cells stand in layout 0, unmirrored. A row of
-- such poses is legal with R = 0 just if its site numbers are those of cells that follow each other.
use Prim.Native.Nat.{ℕ, suc, ◌+◌, ◌*◌}
use Rattle.std.specs.Prelude.{◌≡◌, Bool, not, ◌&&◌, ◌||◌, length, eqb}
use mathlib.Core.List.{List, [], ◌∷◌}
use Rattle.definition.specs.Job.{Job}
use Rattle.definition.specs.Placement.{Pose}
use Rattle.definition.specs.Rules.{no_pose}
use Rattle.theory_pair.specs.Cells.{Side, members, cell}
use Rattle.theory_bridge.specs.Paired.{width_of, pose_number, is_offered, closes_of, pair_job}
use Rattle.theory_cover.specs.FileRow.{FileRow}

-- in layout 0, unmirrored
abbrev pub IsPlain : Pose → Type 0
IsPlain p = (p.layout ≡ 0) × (p.mark ≡ 0)

-- how many site numbers a cell has: from given - D to given + D
abbrev pub site_numbers_of : Job → ℕ
site_numbers_of j = 2 * j.header.displacement + 1

-- ---- poses and their numbers

module _ (j : Job) (k : ℕ) where
  -- cell k's pose at its site number t
  abbrev pub plain_pose : ℕ → Pose
  plain_pose t = pose_number j k (4 * t)

  abbrev pub plain_width : ℕ
  plain_width = width_of j k no_pose

-- ---- the row

-- the poses f of a row's cells, by positions
abbrev pub row_poses : Job → (ℕ → Pose) → Side → ℕ → Pose
row_poses j f s p = f (cell (pair_job j) s p)

module _ (j : Job) (s : Side) where
  -- the cell at position p, and how many there are
  abbrev cell_no : ℕ → ℕ
  cell_no p = cell (pair_job j) s p

  abbrev n : ℕ
  n = length (members (pair_job j) s)

  -- the last cell leaves no single site at the row's end
  abbrev pub may_end : ℕ → ℕ → Bool
  may_end p t = not (eqb (suc p) n) || closes_of j (cell_no p) (plain_pose j (cell_no p) t)

  abbrev pub row_of_job : FileRow
  row_of_job = record {
    size = n;
    wide = λ p. plain_width j (cell_no p);
    site_numbers = site_numbers_of j;
    site = λ p t. (plain_pose j (cell_no p) t).site;
    ok = λ p t. is_offered j (cell_no p) (4 * t) && may_end p t;
  }

  -- the poses g of the positions from p on are those of the site numbers
  abbrev pub NumberedBy : (ℕ → Pose) → ℕ → List ℕ → Type 0
  NumberedBy g p [] = Unit {0}
  NumberedBy g p (t ∷ ts) = (plain_pose j (cell_no p) t ≡ g p) × NumberedBy g (suc p) ts
