-- The placements of a job that may carry staples, and site numbers of its two rows: each gives the other, and the
-- staples are the sites that are not covered.
use Rattle.std.specs.Prelude.{ℕ, ◌<◌, ◌≡◌, length}
use mathlib.Core.List.{List}
use Rattle.definition.specs.Job.{Job}
use Rattle.definition.specs.Placement.{Pose}
use Rattle.theory_pair.specs.Members.{at}
use Rattle.theory_pair.specs.Cells.{Side, row₀, row₁, members}
use Rattle.theory_pair.specs.Cells.{cell}
use Rattle.theory_bridge.specs.Paired.{pair_job}
use Rattle.theory_cover.specs.Covered.{RowsFrom, anew}
use Rattle.theory_staples.specs.JobRow.{plain_pose, row_poses, row_of_job}

-- both rows at the site numbers ts and us, and how many sites they cover
abbrev pub RowsBy : Job → List ℕ → List ℕ → Type 0
RowsBy j ts us = RowsFrom (row_of_job j row₀) (row_of_job j row₁) 0 0 0 0 ts us

abbrev pub covered_by : Job → List ℕ → List ℕ → ℕ
covered_by j ts us = anew (row_of_job j row₀) (row_of_job j row₁) j.header.sites 0 0 0 0 ts us

-- the pose of the cell at position p of a row is that of its site number t
abbrev pub PosedAt : Job → (ℕ → Pose) → Side → ℕ → ℕ → Type 0
PosedAt j f s p t = row_poses j f s p ≡ plain_pose j (cell (pair_job j) s p) t

abbrev pub PosedBy : Job → (ℕ → Pose) → Side → List ℕ → Type 0
PosedBy j f s ts = (p : ℕ) → p < length (members (pair_job j) s) → PosedAt j f s p (at ts p)
