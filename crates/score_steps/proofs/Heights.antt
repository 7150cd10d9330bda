-- The steps between two placed cells, from the cells and their poses alone, are the definition's.
use Rattle.std.specs.Prelude.{ℕ, ◌≡◌, refl}
use Rattle.definition.specs.Job as paper
use Rattle.definition.specs.Placement as text
use Rattle.definition.specs.Rules.{cell_at, pose_at}
use Rattle.definition.specs.Cost.{differing}
use Rattle.score_steps.specs.Heights.{differing_of}

pub differing-of : (j : paper.Job) (P : text.Placement) (row a b : ℕ)
    → differing j P row a b ≡ differing_of (cell_at j a) (pose_at P a) (cell_at j b) (pose_at P b) row
unfolding differing differing_of
differing-of j P row a b = refl
