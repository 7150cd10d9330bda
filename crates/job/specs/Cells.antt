-- Cell k and pose k of a value are those of the job and the placement that it stands for.
use Rattle.std.specs.Prelude.{ℕ, ◌≤◌, ◌<◌, ◌≡◌, length, take}
use Rattle.std.proofs.Common.{ap, ◌∙◌, arith, length-take, get_or-take, length-take-le}
use Rattle.std.proofs.lemmas.List.{length-map}
use Rattle.std.proofs.Math.ListN.{get_or-map, get_or-eq_default}
use Rattle.definition.specs.Job.{max_cells}
use Rattle.definition.specs.Rules.{absent_cell, no_pose, cell_at, pose_at}
use Rattle.job.specs.declared.Job.{Job}
use Rattle.job.specs.declared.Placement.{Placement}
use Rattle.job.specs.Value as value
use Rattle.job.specs.Value.{cell_of, job_of, pose_of, placement_of}

pub cell-there : (job : Job) (k : ℕ) → k < job.count → cell_at (job_of job) k ≡ cell_of (value.cell_at job k)
unfolding job_of cell_of
cell-there job k h =
    get_or-map cell_of (take job.count job.cells) k value.absent_cell
    ∙ ap cell_of (get_or-take job.count job.cells k value.absent_cell h)

pub cell_lacking : (job : Job) (k : ℕ) → job.count ≤ k → cell_at (job_of job) k ≡ absent_cell
unfolding job_of cell_of
cell_lacking job k h =
    let cells = take job.count job.cells in
    get_or-map cell_of cells k value.absent_cell
    ∙ ap cell_of (get_or-eq_default cells value.absent_cell (simp length-take (omega arith)))

pub cell-count : (job : Job) → length job.cells ≡ max_cells → job.count ≤ max_cells
    → length (job_of job).cells ≡ job.count
unfolding job_of
cell-count job e h =
    length-map (take job.count job.cells) cell_of ∙ length-take-le job.count job.cells (omega arith)

pub pose-there : (P : Placement) (k : ℕ) → k < P.count → pose_at (placement_of P) k ≡ pose_of (value.pose_at P k)
unfolding placement_of
pose-there P k h =
    get_or-map pose_of (take P.count P.poses) k value.empty_pose
    ∙ ap pose_of (get_or-take P.count P.poses k value.empty_pose h)

pub pose_lacking : (P : Placement) (k : ℕ) → P.count ≤ k → pose_at (placement_of P) k ≡ no_pose
unfolding placement_of
pose_lacking P k h =
    let poses = take P.count P.poses in
    get_or-map pose_of poses k value.empty_pose
    ∙ ap pose_of (get_or-eq_default poses value.empty_pose (simp length-take (omega arith)))
