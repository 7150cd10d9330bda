-- The reading of a line, and what the reading of a placement is held to say of its text.
use Rattle.std.specs.Prelude.{ℕ, suc, ◌+◌, ◌≤◌, ◌≡◌, refl, Bool, false, List, [], ◌∷◌, length}
use Rattle.std.proofs.Common.{sym}
use Rattle.std.proofs.Math.Bool.{true}
use Rattle.std.proofs.lemmas.Bool.{false≢true}
use Rattle.definition.specs.Texts.{Text}
use Rattle.definition.specs.Placement.{Pose, Printable, Placement, Poses, fault, poses, line_of, text_of}
use Rattle.definition.specs.Placement.{is_pose, pose_of, with_pose, read_poses}

abbrev pub Each : (Pose → Type 0) → Placement → Type 0
Each S [] = Unit {0}
Each S (p ∷ P) = S p × Each S P

-- what a good line says prints as the line
pub record Said (l : Text) (p : Pose) : Type 0 where
  pub small : Printable p
  pub prints : line_of p ≡ l

-- ---- the reading of a line, by its test

pub read-good : (at due : ℕ) (l : Text) (ls : List Text) → is_pose l ≡ true
    → read_poses at (suc due) (l ∷ ls) ≡ with_pose (pose_of l) (read_poses (suc at) due ls)
unfolding read_poses
read-good at due l ls e = go (is_pose l) e
  where
    go : (t : Bool) → t ≡ true
        → elim t [ true ↦ with_pose (pose_of l) (read_poses (suc at) due ls) | false ↦ fault at ]
        ≡ with_pose (pose_of l) (read_poses (suc at) due ls)
    go true e = refl
    go false e = absurd (false≢true e)

pub read-bad : (at due : ℕ) (l : Text) (ls : List Text) → is_pose l ≡ false → read_poses at (suc due) (l ∷ ls) ≡ fault at
unfolding read_poses
read-bad at due l ls e = go (is_pose l) e
  where
    go : (t : Bool) → t ≡ false
        → elim t [ true ↦ with_pose (pose_of l) (read_poses (suc at) due ls) | false ↦ fault at ] ≡ fault at
    go true e = absurd (false≢true (sym e))
    go false e = refl

-- ---- "a text that reads is the print of what it reads as"

-- what is read of a text from the line numbered at on, where so many lines are due
pub record Prints (text : Text) (due : ℕ) (P : Placement) : Type 0 where
  pub prints : text_of P ≡ text
  pub count : length P ≡ due
  pub small : Each Printable P

abbrev pub Fair : Text → ℕ → ℕ → Poses → Type 0
Fair text at due (fault n) = (at ≤ n) × (n ≤ at + due)
Fair text at due (poses P) = Prints text due P
