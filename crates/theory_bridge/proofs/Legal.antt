-- A placement is legal just if it is legal in the pair's theory.
use Rattle.std.specs.Prelude.{◌≡◌, ◌↔◌, true, ◌&&◌, length, ltb}
use Rattle.std.proofs.Common.{sym, ap, ◌∙◌, subst, arith, ltb-true, lt-ltb, ltb-false, le-ltb}
use Rattle.std.proofs.Math.Bool.{Bool}
use mathlib.Core.List.{Memᴰ as In}
use Prim.Native.Nat.{ℕ, ◌≤◌, ◌<◌}
use Rattle.definition.specs.Lists.{any}
use Rattle.definition.specs.Job.{Job}
use Rattle.definition.specs.Job as job
use Rattle.definition.specs.Placement.{Pose, Placement}
use Rattle.definition.specs.Rules.{Legal, Holds, cell_at, site_at, cells_of, wrong_side}
use Rattle.definition.specs.Rules.{breaks1, breaks2, breaks3, breaks7}
use Rattle.definition_laws.specs.Sound.{Sound}
use Rattle.definition_laws.specs.Agree.{every_legal}
use Rattle.theory_pair.specs.Cells.{is_tall, LegalPair}
use Rattle.theory_bridge.specs.Paired.{site_of, offers_of, pair_job}
use Rattle.theory_bridge.proofs.Tests.{and-false, or-false, any_false}
use Rattle.theory_bridge.proofs.Offers.{Keeps, offered-rules}
use Rattle.theory_bridge.proofs.Row.{Gives, in_cells, is_tall-same}
use Rattle.theory_bridge.proofs.RowRules.{rule4-same, rule5-same, rule6-same}
use Rattle.theory_bridge.proofs.RowEnds.{rule8_same}

module _ (j : Job) (sound : Sound j) (P : Placement) (f : ℕ → Pose) (g : Gives P (length j.cells) f) where
  -- rule 7
  abbrev pub InOrder : Type 0
  InOrder = (a b : ℕ) → a < b → b < length j.cells → is_tall ((pair_job j).kind a) ≡ true
      → is_tall ((pair_job j).kind b) ≡ true → site_of (f a) ≤ site_of (f b)

  pub rule7_same : Holds j (breaks7 j P) ↔ InOrder
  unfolding breaks7
  rule7_same = (to, back)
    where
      tall : ℕ → Bool
      tall k = job.is_tall (cell_at j k)

      test : ℕ → ℕ → Bool
      test k b = tall b && wrong_side P k b

      left : ℕ → ℕ → Bool
      left k b = ltb b k && ltb (site_at P k) (site_at P b)

      right : ℕ → ℕ → Bool
      right k b = ltb k b && ltb (site_at P b) (site_at P k)

      to : Holds j (breaks7 j P) → InOrder
      to h a b l q ta tb =
          let p : a < length j.cells = omega arith in
          let any_at = (and-false (tall a) (any (test a) (cells_of j))).0 (h a p) (is_tall-same j sound a p ∙ ta) in
          let here = (and-false (tall b) (wrong_side P a b)).0
          ((any_false (test a) (cells_of j)).0 any_at b ((in_cells j sound b).1 q)) (is_tall-same j sound b q ∙ tb) in
          let beyond = ((or-false (left a b) (right a b)).0 here).1 in
          let z = ltb-false (site_at P b) (site_at P a)
          ((and-false (ltb a b) (ltb (site_at P b) (site_at P a))).0 beyond (lt-ltb a b l)) in
          let x = ap site_of (g a p) in
          let y = ap site_of (g b q) in
          omega arith

      keeps : InOrder → (a b : ℕ) → a < b → b < length j.cells → tall a ≡ true → tall b ≡ true
          → site_at P a ≤ site_at P b
      keeps c a b l q ta tb =
          let p : a < length j.cells = omega arith in
          let z = c a b l q (sym (is_tall-same j sound a p) ∙ ta) (sym (is_tall-same j sound b q) ∙ tb) in
          let x = ap site_of (g a p) in
          let y = ap site_of (g b q) in
          omega arith

      back : InOrder → Holds j (breaks7 j P)
      back c k h =
          (and-false (tall k) (any (test k) (cells_of j))).1
          (λ tk. (any_false (test k) (cells_of j)).1
          (λ b m. (and-false (tall b) (wrong_side P k b)).1 (λ tb. (or-false (left k b) (right k b)).1 (
            (and-false (ltb b k) (ltb (site_at P k) (site_at P b))).1
                (λ e. le-ltb (site_at P k) (site_at P b) (keeps c b k (ltb-true b k e) h tb tk)),
            (and-false (ltb k b) (ltb (site_at P b) (site_at P k))).1
                (λ e. le-ltb (site_at P b) (site_at P k) (keeps c k b (ltb-true k b e) ((in_cells j sound b).0 m) tk tb)),
          ))))

  pub legal-pair : length P ≡ length j.cells → Legal j P ↔ LegalPair j.header.reordering site_of (pair_job j) f
  legal-pair size = (to, back)
    where
      to : Legal j P → LegalPair j.header.reordering site_of (pair_job j) f
      to l = record {
        offered = λ k h. subst (λ p. In p (offers_of j k)) (g k h)
            ((offered-rules j sound k P).1 (l.rule 1 k h, l.rule 2 k h, l.rule 3 k h));
        rows = λ s. record {
          rule4 = (rule4-same j sound P f g).0 (l.rule 4) s;
          rule5 = (rule5-same j sound P f g).0 (l.rule 5) s;
          rule6 = (rule6-same j sound P f g).0 (l.rule 6) s;
        };
        talls_in_order = rule7_same.0 (l.rule 7);
        ended = (rule8_same j sound P f g).0 (l.rule 8);
      }

      back : LegalPair j.header.reordering site_of (pair_job j) f → Legal j P
      back l =
          let kept : (k : ℕ) → k < length j.cells → Keeps j k P =
          λ k h. (offered-rules j sound k P).0 (subst (λ p. In p (offers_of j k)) (sym (g k h)) (l.offered k h)) in
          let r1 : Holds j (breaks1 j P) = λ k h. (kept k h).0 in
          let r2 : Holds j (breaks2 j P) = λ k h. (kept k h).1 in
          let r3 : Holds j (breaks3 j P) = λ k h. (kept k h).2 in
          let r4 = (rule4-same j sound P f g).1 (λ s. (l.rows s).rule4) in
          let r5 = (rule5-same j sound P f g).1 (λ s. (l.rows s).rule5) in
          let r6 = (rule6-same j sound P f g).1 (λ s. (l.rows s).rule6) in
          let r7 = rule7_same.1 l.talls_in_order in
          let r8 = (rule8_same j sound P f g).1 l.ended in
          every_legal j P size (r1, (r2, (r3, (r4, (r5, (r6, (r7, (r8, tt))))))))
