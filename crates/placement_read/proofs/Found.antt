-- A pose from the numbers of its line, and none.
use Prim.Native.Nat.{ℕ}
use mathlib.Core.Path.{◌≡◌, sym, ◌∙◌}
use mathlib.Core.Bool.{false}
use native.Mathlib.Omega.{arith}
use lib.ListN.{get_or, drop}
use Rattle.definition.specs.Texts.{Text, fields_of}
use Rattle.definition.specs.Placement.{pose_of, is_pose}
use Rattle.text_scan.specs.Line.{first_line, readable}
use Rattle.text_scan.specs.Found.{NumbersTo}
use Rattle.text_scan.specs.declared.Numbers.{Numbers}
use Rattle.placement_read.specs.Reading.{PoseTo}
use Rattle.placement_read.specs.declared.PoseLine.{PoseLine}
use Rattle.placement_read.proofs.Lines.{three-numbers, not_three, not-readable, field-value, lines_at}

module _ (text : Text) (at : ℕ) where
  pub pose-bad : readable (drop at text) ≡ false → is_pose (first_line (drop at text)) ≡ false
  pose-bad e = not-readable (drop at text) e

  module _ (n : Numbers) (h : NumbersTo text at n) where
    pub pose-other : (n.count ≡ 3 → ⊥) → is_pose (first_line (drop at text)) ≡ false
    pose-other d = not_three (drop at text) (λ q. d (h.found.count ∙ q))

    abbrev said : PoseLine
    said = record { next = n.next; pose = record { site = get_or n.values 0 0; layout = get_or n.values 1 0; mark = get_or n.values 2 0 } }

    pub pose-good : n.count ≡ 3 → PoseTo text at said
    unfolding pose_of
    pose-good k =
        let f = h.found in
        let fields = fields_of (first_line (drop at text)) in
        record {
          ok = three-numbers (drop at text) h.ok (sym f.count ∙ k);
          within = f.within;
          lines = lines_at text at (omega (arith, f.past, f.within)) ∙ rw f.rest;
          says =
              rw (
                f.values 0 (omega arith) ∙ field-value fields 0,
                f.values 1 (omega arith) ∙ field-value fields 1,
                f.values 2 (omega arith) ∙ field-value fields 2,
              );
          small = record { site = f.small 0; layout = f.small 1; mark = f.small 2 };
        }
