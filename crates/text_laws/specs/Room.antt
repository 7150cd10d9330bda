-- How long a printed line is: at most 15 bytes a cell, and at most 9 where layout and
-- mark are 0 or 1. And the text of the first cells.
use Rattle.std.specs.Prelude.{ℕ, zero, suc, ◌+◌, ◌<◌, ◌≤◌, ◌≡◌, refl, [], ◌∷◌, ◌++◌, length, take, drop}
use Rattle.std.proofs.Common.{sym, ap, ◌∙◌, append_assoc, append-nil, arith, add-one, length-append, take-append-drop, take-suc}
use Rattle.definition.specs.Texts.{Text, digits}
use Rattle.definition.specs.Placement.{Pose, Printable, Placement, line_of, text_of}
use Rattle.definition.specs.Rules.{no_pose, pose_at}
use Rattle.text_laws.specs.Numbers.{four-long, one-digit}
use Rattle.text_laws.specs.Poses.{Each}

pub record Narrow (p : Pose) : Type 0 where
  pub site : p.site ≤ 9999
  pub layout : p.layout ≤ 1
  pub mark : p.mark ≤ 1

pub narrow-printable : (p : Pose) → Narrow p → Printable p
narrow-printable p h = record { site = h.site; layout = omega (arith, h.layout); mark = omega (arith, h.mark) }

line-long : (p : Pose)
    → length (line_of p) ≡ length (digits p.site) + length (digits p.layout) + length (digits p.mark) + 3
line-long p = simp length-append (omega arith)

pub line-room : (p : Pose) → Printable p → length (line_of p) ≤ 15
line-room p h = omega (
  arith,
  line-long p,
  four-long p.site h.site,
  four-long p.layout h.layout,
  four-long p.mark h.mark,
)

one-long : (n : ℕ) → n ≤ 1 → length (digits n) ≡ 1
one-long n h = ap length (one-digit n (omega arith))

pub narrow-line-room : (p : Pose) → Narrow p → length (line_of p) ≤ 9
narrow-line-room p h =
    omega (
      arith,
      line-long p,
      four-long p.site h.site,
      one-long p.layout h.layout,
      one-long p.mark h.mark,
    )

-- ---- the text of the first i cells

text_append : (P Q : Placement) → text_of (P ++ Q) ≡ text_of P ++ text_of Q
unfolding text_of
text_append [] Q = refl
text_append (p ∷ P) Q = rw (text_append P Q) (sym (append_assoc (line_of p) (text_of P) (text_of Q)))

pub text-more : (P : Placement) (i : ℕ) → i < length P
    → text_of (take (i + 1) P) ≡ text_of (take i P) ++ line_of (pose_at P i)
unfolding text_of
text-more P i h =
    rw (add-one i, take-suc P i no_pose)
    (text_append (take i P) (pose_at P i ∷ [])
    ∙ ap (λ (t : Text). text_of (take i P) ++ t) (append-nil (line_of (pose_at P i))))

pub text-within : (P : Placement) (i : ℕ) → length (text_of (take i P)) ≤ length (text_of P)
text-within P i =
    let e : length (text_of P) ≡ length (text_of (take i P)) + length (text_of (drop i P)) =
    ap (λ (Q : Placement). length (text_of Q)) (sym (take-append-drop i P))
    ∙ ap length (text_append (take i P) (drop i P))
    ∙ length-append (text_of (take i P)) (text_of (drop i P)) in
    omega arith

-- ---- what holds of each pose, from what holds at each place, and back

pub each_implies : (S T : Pose → Type 0) → ((p : Pose) → S p → T p) → (P : Placement) → Each S P → Each T P
each_implies S T f [] h = tt
each_implies S T f (p ∷ P) h = (f p h.0, each_implies S T f P h.1)

pub each_at : (S : Pose → Type 0) (P : Placement) → ((k : ℕ) → k < length P → S (pose_at P k)) → Each S P
each_at S [] h = tt
each_at S (p ∷ P) h = (h 0 (omega arith), each_at S P (λ k l. h (suc k) (omega arith)))

pub at_each : (S : Pose → Type 0) (P : Placement) → Each S P → (k : ℕ) → k < length P → S (pose_at P k)
at_each S [] h k l = absurd (omega arith)
at_each S (p ∷ P) h zero l = h.0
at_each S (p ∷ P) h (suc k) l = at_each S P h.1 k (omega arith)
