-- The lines of a placement text from a byte on: in their form or not, missing or surplus, and what that makes of the whole reading.
use Prim.Native.Nat.{ℕ, suc, ◌<◌, ◌≤◌}
use mathlib.Core.Path.{◌≡◌, refl, ap, ◌∙◌}
use mathlib.Core.Bool.{Bool, true, false, ◌&&◌, and-false, and-eq-true_iff}
use mathlib.Core.List.{List, [], ◌∷◌, ◌++◌, map}
use lib.ListN.{length, get_or, drop, get_or-map, drop_of_length-le}
use lib.Seq.{drop-cons}
use lib.Dec.{eqb}
use borrow.Author.Tests.{eq-eqb, ne_eqb}
use Rattle.definition.specs.Lists.{all}
use Rattle.definition.specs.Texts.{Text, lines_of, fields_of, ended, is_number, value, value_from}
use Rattle.definition.specs.Job.{nth}
use Rattle.definition.specs.Placement.{Pose, Placement, Poses, fault, poses, is_pose, with_pose, read_poses}
use Rattle.text_laws.specs.Poses.{read-bad}
use Rattle.text_scan.specs.Line.{first_line, after_line, readable, lines-first}

-- ---- a line in its form: three numbers and an end

module _ (s : Text) where
  pub three-numbers : readable s ≡ true → length (fields_of (first_line s)) ≡ 3 → is_pose (first_line s) ≡ true
  unfolding readable is_pose
  three-numbers e n =
      let b = (and-eq-true_iff (ended (first_line s)) (all is_number (fields_of (first_line s)))).0 e in
      rw (b.0, b.1, eq-eqb (length (fields_of (first_line s))) 3 n)

  pub not_three : (length (fields_of (first_line s)) ≡ 3 → ⊥) → is_pose (first_line s) ≡ false
  unfolding is_pose
  not_three n =
      rw (ne_eqb (length (fields_of (first_line s))) 3 n) (ap (λ (t : Bool). t && all is_number (fields_of (first_line s))) (and-false (ended (first_line s))))

  pub not-readable : readable s ≡ false → is_pose (first_line s) ≡ false
  unfolding readable is_pose
  not-readable e = go (ended (first_line s)) (eqb (length (fields_of (first_line s))) 3) (all is_number (fields_of (first_line s))) e
    where
      go : (a b c : Bool) → (a && c) ≡ false → (a && b && c) ≡ false
      go true true c e = e
      go true false c e = refl
      go false b c e = refl

-- what a number of the line is
pub field-value : (fields : List Text) (k : ℕ) → nth (map value fields) k ≡ value (get_or fields k [])
unfolding value_from
field-value fields k = get_or-map value fields k []

-- ---- the reading from a byte on

pub lines_at : (text : Text) (at : ℕ) → at < length text → lines_of (drop at text) ≡ first_line (drop at text) ∷ lines_of (after_line (drop at text))
lines_at text at h = rw (drop-cons text at 0) (lines-first (get_or text at 0) (drop (suc at) text))

-- the line is bad or missing
pub read-fault : (s : Text) (at due : ℕ) → is_pose (first_line s) ≡ false → read_poses at (suc due) (lines_of s) ≡ fault at
unfolding read_poses lines_of
read-fault [] at due e = refl
read-fault (b ∷ bs) at due e = ap (read_poses at (suc due)) (lines-first b bs) ∙ read-bad at due (first_line (b ∷ bs)) (lines_of (after_line (b ∷ bs))) e

-- a line is surplus, or none is left
pub read-surplus : (text : Text) (from at : ℕ) → from < length text → read_poses at 0 (lines_of (drop from text)) ≡ fault at
unfolding read_poses
read-surplus text from at h = rw (lines_at text from h)

pub read-end : (text : Text) (from at : ℕ) → length text ≤ from → read_poses at 0 (lines_of (drop from text)) ≡ poses []
unfolding read_poses lines_of
read-end text from at h = rw (drop_of_length-le text h)

-- ---- the poses read so far before what is read of the rest

abbrev pub with_poses : Placement → Poses → Poses
with_poses [] r = r
with_poses (p ∷ P) r = with_pose p (with_poses P r)

pub with_snoc : (P : Placement) (p : Pose) (r : Poses) → with_poses (P ++ (p ∷ [])) r ≡ with_poses P (with_pose p r)
with_snoc [] p r = refl
with_snoc (q ∷ P) p r = ap (with_pose q) (with_snoc P p r)

pub with_fault : (P : Placement) (n : ℕ) → with_poses P (fault n) ≡ fault n
with_fault [] n = refl
with_fault (p ∷ P) n = ap (with_pose p) (with_fault P n)

pub with_none : (P : Placement) → with_poses P (poses []) ≡ poses P
with_none [] = refl
with_none (p ∷ P) = ap (with_pose p) (with_none P)
