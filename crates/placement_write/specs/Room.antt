-- What the writer of a placement asks.
use Rattle.std.specs.Prelude.{ℕ, ◌≤◌, List, length}
use Rattle.definition.specs.Job.{max_cells}
use Rattle.definition.specs.Placement.{text_of}
use Rattle.job.specs.declared.Placement.{Placement}
use Rattle.job.specs.Value.{placement_of}

-- its text fits into the output, and it has no more poses than a job may have cells
pub record PlacementRoom (placement : Placement) (output : List ℕ) : Type 0 where
  pub fits : length (text_of (placement_of placement)) ≤ length output
  pub few : placement.count ≤ max_cells
