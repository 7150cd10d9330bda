-- The reading of a placement text, line by line: what is read so far, with what the rest reads as, is the reading of the whole.
use Prim.Native.Nat.{ℕ, suc, ◌+◌, ◌-◌, ◌<◌, ◌≤◌}
use mathlib.Core.Path.{◌≡◌, refl, sym, ap, ◌∙◌}
use mathlib.Core.Bool.{false}
use native.Mathlib.Omega.{arith}
use native.Mathlib.Nat.{sub-zero}
use lib.ListN.{length, drop}
use Rattle.definition.specs.Texts.{Text, lines_of}
use Rattle.definition.specs.Placement as paper
use Rattle.definition.specs.Placement.{Poses, fault, poses, with_pose, is_pose, read_poses, read_placement}
use Rattle.text_laws.specs.Poses.{read-good}
use Rattle.text_scan.specs.Line.{first_line}
use Rattle.std.specs.Prelude.{Ok, Err}
use Rattle.results.specs.declared.Refusal.{Refusal}
use Rattle.results.specs.Refusals.{line_of}
use Rattle.job.specs.Value.{empty_placement, pose_of, placement_of}
use Rattle.job.specs.declared.Placement.{Placement}
use Rattle.placement_read.specs.Reading.{PoseTo, Kept, Grown, FaultAt, ReadAs}
use Rattle.placement_read.specs.declared.PoseLine.{PoseLine}
use Rattle.placement_read.proofs.Lines.{read-fault, read-surplus, read-end, with_poses, with_snoc, with_fault, with_none}
use Rattle.placement_read.proofs.Kept.{empty-kept}

-- n poses are read, up to byte at
pub record LinesSofar (text : Text) (due : ℕ) (P : Placement) (at : ℕ) : Type 0 where
  pub kept : Kept P
  pub low : P.count ≤ due
  pub within : at ≤ length text
  pub reads : read_placement due text ≡ with_poses (placement_of P) (read_poses (suc P.count) (due - P.count) (lines_of (drop at text)))

-- the first n of the poses in an array
abbrev pub first_poses : Placement → ℕ → Placement
first_poses P n = record { count = n; poses = P.poses }

pub start : (text : Text) (due : ℕ) (P : Placement) → P ≡ empty_placement → LinesSofar text due (first_poses P 0) 0
unfolding placement_of read_placement
start text due P e =
    rw e
    (record {
      kept = empty-kept empty_placement refl;
      low = omega arith;
      within = omega arith;
      reads = ap (λ (n : ℕ). read_poses 1 n (lines_of text)) (sym (sub-zero due));
    })

module _ {text : Text} {due : ℕ} {P : Placement} {at : ℕ} (h : LinesSofar text due P at) where
  module _ (more : P.count < due) where
    left : due - P.count ≡ suc (due - suc P.count)
    left = omega arith

    module _ {r : PoseLine} (f : PoseTo text at r) where
      -- this line and the rest
      this : Poses
      this = with_pose (pose_of r.pose) (read_poses (suc (suc P.count)) (due - suc P.count) (lines_of (drop r.next text)))

      now : read_poses (suc P.count) (due - P.count) (lines_of (drop at text)) ≡ this
      unfolding this
      now =
          rw (left, f.lines)
          (read-good (suc P.count) (due - suc P.count) (first_line (drop at text)) (lines_of (drop r.next text)) f.ok
          ∙ ap (λ (p : paper.Pose). with_pose p (read_poses (suc (suc P.count)) (due - suc P.count) (lines_of (drop r.next text)))) (sym f.says))

      later : {Q : Placement} → Grown P r.pose Q
          → with_poses (placement_of Q) (read_poses (suc Q.count) (due - Q.count) (lines_of (drop r.next text))) ≡ with_poses (placement_of P) this
      unfolding this
      later g =
          rw (g.poses, g.count)
          (with_snoc (placement_of P) (pose_of r.pose) (read_poses (suc (suc P.count)) (due - suc P.count) (lines_of (drop r.next text))))

      pub step : {Q : Placement} → Grown P r.pose Q → LinesSofar text due Q r.next
      step {Q} g = record {
        kept = g.kept;
        low = omega (arith, g.count);
        within = f.within;
        reads = h.reads ∙ ap (with_poses (placement_of P)) now ∙ sym (later g);
      }

    pub bad : is_pose (first_line (drop at text)) ≡ false → read_placement due text ≡ fault (suc P.count)
    bad e =
        h.reads ∙ rw (left, read-fault (drop at text) (suc P.count) (due - suc P.count) e) (with_fault (placement_of P) (suc P.count))

  module _ (all : due ≤ P.count) where
    whole : P.count ≡ due
    whole = omega (arith, h.low)

    none_left : due - P.count ≡ 0
    none_left = omega (arith, all)

    pub surplus : at < length text → read_placement due text ≡ fault (suc due)
    surplus e =
        h.reads ∙ rw (none_left, read-surplus text at (suc P.count) e, with_fault (placement_of P) (suc P.count)) (ap (λ (n : ℕ). fault (suc n)) whole)

    pub complete : length text ≤ at → ReadAs text due (Ok P)
    complete e = record {
      equal = sym (h.reads ∙ rw (none_left, read-end text at (suc P.count) e) (with_none (placement_of P)));
      whole = record { kept = h.kept; count = whole };
      faulty = tt;
    }

pub at-fault : (text : Text) (due n : ℕ) (f : Refusal) → read_placement due text ≡ fault (suc n) → n ≤ due → FaultAt (n + 1) f → ReadAs text due (Err f)
at-fault text due n f e low h =
    let l : line_of f ≡ suc n = omega (arith, h.line) in
    record { equal = rw l (sym e); whole = tt; faulty = record { number = h.number; line = omega (arith, l) } }
