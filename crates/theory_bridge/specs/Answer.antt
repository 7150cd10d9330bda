-- Poses for the cells of a job as its placement.
use Rattle.std.specs.Prelude.{ℕ, length}
use Rattle.definition.specs.Job.{Job}
use Rattle.definition.specs.Placement.{Pose, Placement}
use Rattle.theory_pair.specs.Cells.{LegalPair}
use Rattle.theory_bridge.specs.Paired.{site_of, pair_job}
use Rattle.theory_bridge.specs.Poses.{placement_from}

-- the poses f as a placement of the job, and whether they are legal
abbrev pub placement_by : Job → (ℕ → Pose) → Placement
placement_by j f = placement_from f (length j.cells)

abbrev pub PairLegal : Job → (ℕ → Pose) → Type 0
PairLegal j f = LegalPair j.header.reordering site_of (pair_job j) f
