-- What a segment goes on from, and its first layer: one definition for the row's start and for a tall cell.
use Rattle.std.specs.Prelude.{ℕ, suc, ◌+◌, ◌≤◌, ◌<◌, ◌≡◌, List, Option, None, Some, ◌&&◌, eqb, Bool, true, false}
use Rattle.std.proofs.Math.Path.{ap}
use Rattle.std.proofs.Common.{add-one}
use Rattle.std.proofs.Math.Bool.{cond}
use Rattle.definition.specs.Job.{max_cells}
use Rattle.theory_tables.specs.Steps.{B, Layer, before, last_at, is_there}
use Rattle.search_store.specs.Map.{max_kept, max_poses}
use Rattle.search_row.specs.declared.Sizes.{Sizes}
use Rattle.search_row.specs.Words.{deck_in, toll_in, front_in, RowWords}
use Rattle.search_dense_first.specs.declared.Tall.{Tall}
use Rattle.search_dense_first.specs.declared.Start.{Start}
use Rattle.search_row.specs.Laws.{toll-low, front_low}
use Rattle.search_dense_first.specs.Firsts.{starts_at}
use Rattle.search_dense_first.specs.Begun.{PosesGiven, LayerGiven, TallPose, open_pose, after_pose}

-- the tall cell is one that the row can have
abbrev pub TallFits : Option Tall → Type 0
TallFits None = Unit {0}
TallFits (Some t) = TallPose t.cell t.pose

-- the pose of a cell, and what it comes after
pub record PaidGiven (row : List ℕ) (tall : Option Tall) (k a : ℕ) : Type 0 where
  pub words : RowWords row
  pub cell : k < max_cells
  pub pose : a < max_poses
  pub before : TallFits tall

-- the poses of a cell that comes next
pub record FirstPoses (row st : List ℕ) (tall : Option Tall) (at k poses : ℕ) : Type 0 where
  pub next : PosesGiven row st at k poses
  pub before : TallFits tall

-- a row, a start, and a dense block for the first layer after it; and one of the layer's states
pub record FirstLayer (row st : List ℕ) (z : Sizes) (s : Start) (to : ℕ) : Type 0 where
  pub layer : LayerGiven row st z to
  pub placed : s.cells ≤ max_kept + 1
  pub before : TallFits s.tall

pub record FirstState (row st : List ℕ) (z : Sizes) (s : Start) (to q : ℕ) : Type 0 where
  pub given : FirstLayer row st z s to
  pub state : q < z.states

-- what pose a of the cell at position k pays
abbrev pub paid_after : List ℕ → Option Tall → ℕ → ℕ → ℕ
paid_after row None k a = front_in row k a
paid_after row (Some t) k a = toll_in row t.cell t.pose k a

abbrev pub first_pose : List ℕ → Option Tall → ℕ → ℕ → ℕ
first_pose row None = open_pose row
first_pose row (Some t) = after_pose row t.cell t.pose

-- the layer with one cell more than the start has
unfoldable pub first_layer : List ℕ → Sizes → Start → Layer
first_layer row z s q a =
    cond (is_there (deck_in row z) z.reordering (suc s.cells) q && eqb s.marks (before z.reordering q))
    (first_pose row s.tall (last_at z.reordering (suc s.cells) q) a) B

pub paid-low : {row : List ℕ} (tall : Option Tall) (k a : ℕ) → RowWords row → paid_after row tall k a ≤ B
paid-low {row} None k a w = front_low row k a
paid-low (Some t) k a w = toll-low t.cell t.pose k a w

-- where a state can come first, and where it cannot
module _ (row : List ℕ) (z : Sizes) (s : Start) (q a : ℕ) where
  pub first-there : starts_at z.cells z.reordering (s.cells + 1) s.marks q ≡ true
      → first_layer row z s q a ≡ first_pose row s.tall (last_at z.reordering (s.cells + 1) q) a
  unfolding first_layer
  first-there e =
      rw (add-one s.cells)
      (ap (λ (t : Bool). cond t (first_pose row s.tall (last_at z.reordering (suc s.cells) q) a) B) (rw (add-one s.cells) at e))

  pub first-away : starts_at z.cells z.reordering (s.cells + 1) s.marks q ≡ false → first_layer row z s q a ≡ B
  unfolding first_layer
  first-away e =
      ap (λ (t : Bool). cond t (first_pose row s.tall (last_at z.reordering (suc s.cells) q) a) B) (rw (add-one s.cells) at e)
