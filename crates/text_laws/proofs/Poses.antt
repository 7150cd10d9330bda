-- Printing a placement and reading it: each undoes the other, for values from 0 to 9,999. Two placements never share
-- a text, whatever their values.
use Rattle.std.specs.Prelude.{ℕ, zero, suc, ◌≤◌, ◌≡◌, refl, Bool, false, ◌&&◌, List, [], ◌∷◌, ◌++◌, map, length, get_or, eqb}
use Rattle.std.proofs.Common.{sym, ◌∙◌, append_assoc, append-nil, arith, eqb-true}
use Rattle.std.proofs.Math.Path.{ap}
use Rattle.std.proofs.Math.Bool.{true, and-eq-true_iff}
use Rattle.definition.specs.Lists.{all}
use Rattle.definition.specs.Texts.{Text, line_feed, comma, lines_of, fields_of, ended, is_number, value, digits}
use Rattle.definition.specs.Placement.{Pose, Printable, Placement, Poses, fault, poses, line_of, text_of}
use Rattle.definition.specs.Placement.{is_pose, pose_of, with_pose, read_poses, read_placement}
use Rattle.text_laws.specs.Numbers.{value-small}
use Rattle.text_laws.specs.Lines.{Unbroken, Lines, none, last, line, lines, first-line}
use Rattle.text_laws.specs.Lines.{ended-line, unended, digits-unbroken, unbroken_append}
use Rattle.text_laws.specs.Lines.{field-then, field-last, joined, fields-joined}
use Rattle.text_laws.proofs.Numbers.{digits-each, digits_number, value-digits, digits_value}
use Rattle.text_laws.specs.Poses.{Each, Said, read-good, read-bad, Prints, Fair}

-- ---- one line

abbrev body : Pose → Text
body p = digits p.site ++ (comma ∷ (digits p.layout ++ (comma ∷ digits p.mark)))

line-body : (p : Pose) (rest : Text) → line_of p ++ rest ≡ body p ++ (line_feed ∷ rest)
line-body p rest = simp append_assoc

line-is : (p : Pose) → line_of p ≡ body p ++ (line_feed ∷ [])
line-is p = sym (append-nil (line_of p)) ∙ line-body p []

module _ (p : Pose) where
  body-unbroken : Unbroken (body p)
  body-unbroken =
      unbroken_append (digits p.site) (comma ∷ (digits p.layout ++ (comma ∷ digits p.mark)))
      (digits-unbroken (digits p.site) (digits-each p.site)) (
        λ e. omega arith,
        unbroken_append (digits p.layout) (comma ∷ digits p.mark)
            (digits-unbroken (digits p.layout) (digits-each p.layout))
            (λ e. omega arith, digits-unbroken (digits p.mark) (digits-each p.mark)),
      )

  fields-line : fields_of (line_of p) ≡ digits p.site ∷ digits p.layout ∷ digits p.mark ∷ []
  fields-line =
      field-then (digits p.site) (digits p.layout ++ (comma ∷ (digits p.mark ++ (line_feed ∷ []))))
      (digits-each p.site)
      ∙ ap (λ (fs : List Text). digits p.site ∷ fs)
      (field-then (digits p.layout) (digits p.mark ++ (line_feed ∷ [])) (digits-each p.layout)
      ∙ ap (λ (fs : List Text). digits p.layout ∷ fs)
      (field-last (digits p.mark) [] (digits-each p.mark)))

  line-good : Printable p → is_pose (line_of p) ≡ true
  unfolding is_pose
  line-good h =
      let e : ended (line_of p) ≡ true = ap ended (line-is p) ∙ ended-line (body p) in
      rw (
        e,
        fields-line,
        digits_number p.site h.site,
        digits_number p.layout h.layout,
        digits_number p.mark h.mark,
      )

  line-pose : pose_of (line_of p) ≡ p
  unfolding pose_of
  line-pose = rw (fields-line, value-digits p.site, value-digits p.layout, value-digits p.mark)

good-says : (text : Text) → Unbroken text → is_pose (text ++ (line_feed ∷ [])) ≡ true
    → Said (text ++ (line_feed ∷ [])) (pose_of (text ++ (line_feed ∷ [])))
unfolding is_pose pose_of
good-says text u e =
    let l : Text = text ++ (line_feed ∷ []) in
    let p = (and-eq-true_iff (ended l && eqb (length (fields_of l)) 3) (all is_number (fields_of l))).0 e in
    let q = (and-eq-true_iff (ended l) (eqb (length (fields_of l)) 3)).0 p.0 in
    let three = eqb-true (length (fields_of l)) 3 q.1 in
    go (fields_of l) three p.1 (fields-joined text u)
  where
    go : (fs : List Text) → length fs ≡ 3 → all is_number fs ≡ true → joined fs ≡ text
        → Said (text ++ (line_feed ∷ []))
        (record { site = value (get_or fs 0 []); layout = value (get_or fs 1 []); mark = value (get_or fs 2 []) })
    go (f ∷ g ∷ h ∷ []) n a j =
        let x = (and-eq-true_iff (is_number f) (all is_number (g ∷ h ∷ []))).0 a in
        let y = (and-eq-true_iff (is_number g) (all is_number (h ∷ []))).0 x.1 in
        let z = (and-eq-true_iff (is_number h) true).0 y.1 in
        record {
          small = record { site = value-small f x.0; layout = value-small g y.0; mark = value-small h z.0 };
          prints =
              rw (digits_value f x.0, digits_value g y.0, digits_value h z.0)
              (simp append_assoc at (ap (λ (t : Text). t ++ (line_feed ∷ [])) j));
        }
    go [] n a j = absurd (omega arith)
    go (f ∷ []) n a j = absurd (omega arith)
    go (f ∷ g ∷ []) n a j = absurd (omega arith)
    go (f ∷ g ∷ h ∷ i ∷ fs) n a j = absurd (omega arith)

bad : (b : ℕ) (text : Text) → Unbroken (b ∷ text) → is_pose (b ∷ text) ≡ false
unfolding is_pose
bad b text u = rw (unended b text u)

-- ---- "printing a placement and reading it gives it back"

lines_printed : (P : Placement) → lines_of (text_of P) ≡ map line_of P
unfolding text_of lines_of
lines_printed [] = refl
lines_printed (p ∷ P) =
    ap lines_of (line-body p (text_of P))
    ∙ first-line (body p) (text_of P) (body-unbroken p)
    ∙ rw (← line-is p, lines_printed P)

read-lines : (at : ℕ) (P : Placement) → Each Printable P → read_poses at (length P) (map line_of P) ≡ poses P
unfolding read_poses
read-lines at [] h = refl
read-lines at (p ∷ P) h =
    read-good at (length P) (line_of p) (map line_of P) (line-good p h.0)
    ∙ rw (line-pose p, read-lines (suc at) P h.1)

pub read_printed : (P : Placement) → Each Printable P → read_placement (length P) (text_of P) ≡ poses P
unfolding read_placement
read_printed P h = rw (lines_printed P) (read-lines 1 P h)

-- "two different placements never share a text"
lines_say : (P : Placement) → map pose_of (map line_of P) ≡ P
lines_say [] = refl
lines_say (p ∷ P) = rw (line-pose p, lines_say P)

pub text_tells : (P Q : Placement) → text_of P ≡ text_of Q → P ≡ Q
text_tells P Q e =
    let ls : map line_of P ≡ map line_of Q = sym (lines_printed P) ∙ ap lines_of e ∙ lines_printed Q in
    sym (lines_say P) ∙ ap (map pose_of) ls ∙ lines_say Q

-- ---- "a text that reads is the print of what it reads as"

one_more : (text rest : Text) (at due : ℕ) (r : Poses)
    → Said (text ++ (line_feed ∷ [])) (pose_of (text ++ (line_feed ∷ [])))
    → Fair rest (suc at) due r
    → Fair (text ++ (line_feed ∷ rest)) at (suc due) (with_pose (pose_of (text ++ (line_feed ∷ []))) r)
unfolding text_of
one_more text rest at due (fault n) s h = (omega arith, omega arith)
one_more text rest at due (poses P) s h = record {
  prints = rw (s.prints, h.prints) (append_assoc text (line_feed ∷ []) rest);
  count = ap suc h.count;
  small = (s.small, h.small);
}

fair : {t : Text} {ls : List Text} → Lines t ls → (at due : ℕ) → Fair t at due (read_poses at due ls)
unfolding read_poses text_of
fair none at zero = record { prints = refl; count = refl; small = tt }
fair none at (suc due) = (omega arith, omega arith)
fair (last u) at zero = (omega arith, omega arith)
fair (last {b} {body = text} u) at (suc due) =
    rw (read-bad at due (b ∷ text) [] (bad b text u)) (omega arith, omega arith)
fair (line text u more) at zero = (omega arith, omega arith)
fair (line text {rest} {ls} u more) at (suc due) = go (is_pose (text ++ (line_feed ∷ []))) refl (fair more (suc at) due)
  where
    go : (t : Bool) → is_pose (text ++ (line_feed ∷ [])) ≡ t → Fair rest (suc at) due (read_poses (suc at) due ls)
        → Fair (text ++ (line_feed ∷ rest)) at (suc due) (read_poses at (suc due) ((text ++ (line_feed ∷ [])) ∷ ls))
    go true e f =
        rw (read-good at due (text ++ (line_feed ∷ [])) ls e)
        (one_more text rest at due (read_poses (suc at) due ls) (good-says text u e) f)
    go false e f = rw (read-bad at due (text ++ (line_feed ∷ [])) ls e) (omega arith, omega arith)

pub read-prints : (n : ℕ) (text : Text) (P : Placement) → read_placement n text ≡ poses P → Prints text n P
unfolding read_placement
read-prints n text P e = rw e at (fair (lines text) 1 n)

pub fault-within : (n : ℕ) (text : Text) (l : ℕ) → read_placement n text ≡ fault l → (1 ≤ l) × (l ≤ suc n)
unfolding read_placement
fault-within n text l e = let f : Fair text 1 n (fault l) = rw e at (fair (lines text) 1 n) in
    (f.0, omega (arith, f.1))
