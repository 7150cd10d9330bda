-- What is read of a placement text: one pose, and the whole, as document 01's reading of it.
use Rattle.std.specs.Prelude.{Option, MatchOption, Result, Ok, Err, IfOk, IfErr}
use Rattle.std.specs.Prelude.{ℕ, suc, ◌≤◌, ◌≡◌, true, false, [], ◌∷◌, ◌++◌, length, drop}
use Rattle.std.proofs.Math.Path.{sym}
use Rattle.definition.specs.Texts.{Text, lines_of}
use Rattle.definition.specs.Job.{max_cells}
use Rattle.definition.specs.Placement as paper
use Rattle.definition.specs.Placement.{Printable, Poses, fault, poses, is_pose, read_placement}
use Rattle.text_scan.specs.Line.{first_line}
use Rattle.job.specs.Value.{pose_at, pose_of, placement_of}
use Rattle.job.specs.declared.Pose.{Pose}
use Rattle.job.specs.declared.Placement.{Placement}
use Rattle.results.specs.declared.Refusal.{Refusal}
use Rattle.results.specs.Refusals.{number_of, line_of}
use Rattle.placement_read.specs.declared.PoseLine.{PoseLine}

-- the line from at to the next is in its form, and says this
pub record PoseTo (text : Text) (at : ℕ) (r : PoseLine) : Type 0 where
  pub ok : is_pose (first_line (drop at text)) ≡ true
  pub within : r.next ≤ length text
  pub lines : lines_of (drop at text) ≡ first_line (drop at text) ∷ lines_of (drop r.next text)
  pub says : pose_of r.pose ≡ paper.pose_of (first_line (drop at text))
  pub small : Printable (pose_of r.pose)

abbrev pub PoseFrom : Text → ℕ → Option PoseLine → Type 0
PoseFrom text at r = MatchOption r (is_pose (first_line (drop at text)) ≡ false) (λ p. PoseTo text at p)

-- a placement in an array of so many as a job may have cells, with values that can be printed
pub record Kept (P : Placement) : Type 0 where
  pub long : length P.poses ≡ max_cells
  pub many : P.count ≤ max_cells
  pub small : (k : ℕ) → Printable (pose_of (pose_at P k))

-- the same with one more pose
pub record Grown (P : Placement) (p : Pose) (r : Placement) : Type 0 where
  pub kept : Kept r
  pub count : r.count ≡ suc P.count
  pub poses : placement_of r ≡ placement_of P ++ (pose_of p ∷ [])

-- refusal 5 at a line
pub record FaultAt (at : ℕ) (f : Refusal) : Type 0 where
  pub number : number_of f ≡ 5
  pub line : line_of f ≡ at

-- what the answer stands for
abbrev pub reading_of : Result Placement Refusal → Poses
reading_of (Ok P) = poses (placement_of P)
reading_of (Err f) = fault (line_of f)

-- a placement of so many poses
pub record Whole (due : ℕ) (P : Placement) : Type 0 where
  pub kept : Kept P
  pub count : P.count ≡ due

-- refusal 5, at one of so many lines or the next
pub record Faulty (due : ℕ) (f : Refusal) : Type 0 where
  pub number : number_of f ≡ 5
  pub line : line_of f ≤ suc due

pub record ReadAs (text : Text) (due : ℕ) (r : Result Placement Refusal) : Type 0 where
  pub equal : reading_of r ≡ read_placement due text
  pub whole : IfOk r (λ P. Whole due P)
  pub faulty : IfErr r (λ f. Faulty due f)

module _ {text : Text} {due : ℕ} where
  pub read-fault : {f : Refusal} → ReadAs text due (Err f) → read_placement due text ≡ fault (line_of f)
  read-fault a = sym a.equal

  pub read_whole : {P : Placement} → ReadAs text due (Ok P) → read_placement due text ≡ poses (placement_of P)
  read_whole a = sym a.equal
