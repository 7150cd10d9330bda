-- How long a printed placement is: at most 15 bytes a cell, and at most 9 where layout and
-- mark are 0 or 1, as in every legal placement.
use Rattle.std.specs.Prelude.{ℕ, ◌*◌, ◌<◌, ◌≤◌, ◌≡◌, refl, [], ◌∷◌, Bool, true, false, ◌&&◌, ◌||◌, length, leb, ltb, eqb}
use Rattle.std.proofs.Common.{arith, mul-suc, length-append, ltb-true, leb-true, eqb-true}
use Rattle.std.proofs.lemmas.Bool.{false≢true, not-false}
use Rattle.std.proofs.Math.Bool.{and-eq-true_iff}
use Rattle.definition.specs.Job.{Job}
use Rattle.definition.specs.Placement.{Pose, Printable, Placement, line_of, text_of}
use Rattle.definition.specs.Rules.{cell_at, pose_at, end_at, Offer, offer_at, choice_offered}
use Rattle.definition.specs.Rules.{breaks1, breaks2, Legal}
use Rattle.definition_laws.specs.Sound.{Sound}
use Rattle.definition_laws.specs.Offers.{layouts-within}
use Rattle.text_laws.specs.Poses.{Each}
use Rattle.text_laws.specs.Room.{Narrow, narrow-printable, line-room, narrow-line-room, each_implies, each_at}

-- ---- over a placement

text-room : (S : Pose → Type 0) (n : ℕ) → ((p : Pose) → S p → length (line_of p) ≤ n) → (P : Placement) → Each S P
    → length (text_of P) ≤ n * length P
unfolding text_of
text-room S n room [] h = omega arith
text-room S n room (p ∷ P) h =
    let one = room p h.0 in
    let more = text-room S n room P h.1 in
    let long = length-append (line_of p) (text_of P) in
    omega (arith, mul-suc n (length P))

pub printable-room : (P : Placement) → Each Printable P → length (text_of P) ≤ 15 * length P
printable-room P h = text-room Printable 15 line-room P h

pub narrow-room : (P : Placement) → Each Narrow P → length (text_of P) ≤ 9 * length P
narrow-room P h = text-room Narrow 9 narrow-line-room P h

-- ---- a legal placement of an accepted job

legal-pose : (o : Offer) (p : Pose) → o.layouts ≤ 2 → choice_offered o p ≡ true → (p.layout ≤ 1) × (p.mark ≤ 1)
legal-pose o p few e =
    let marked : Bool = eqb p.mark 0 || (eqb p.mark 1 && o.mirrorable) in
    let b = (and-eq-true_iff (ltb p.layout o.layouts) marked).0 e in
    let low = ltb-true p.layout o.layouts b.0 in
    (omega arith, go (eqb p.mark 0) (eqb p.mark 1) (eqb-true p.mark 0) (eqb-true p.mark 1) b.1)
  where
    go : (t u : Bool) → (t ≡ true → p.mark ≡ 0) → (u ≡ true → p.mark ≡ 1) → (t || (u && o.mirrorable)) ≡ true
        → p.mark ≤ 1
    go true u f g e = omega (arith, f refl)
    go false true f g e = omega (arith, g refl)
    go false false f g e = absurd (false≢true e)

pub legal-narrow : (j : Job) (P : Placement) → Sound j → Legal j P → Each Narrow P
unfolding breaks1 breaks2
legal-narrow j P s l = each_at Narrow P λ k h.
    let low : k < length j.cells = omega (arith, l.each) in
    let c = s.cell k low in
    let few : (offer_at j k).layouts ≤ 2 = omega (arith, c.few, layouts-within j.header (cell_at j k) c.some) in
    let chosen = not-false (choice_offered (offer_at j k) (pose_at P k)) (l.rule 1 k low) in
    let q = legal-pose (offer_at j k) (pose_at P k) few chosen in
    let inside =
    leb-true (end_at j P k) j.header.sites (not-false (leb (end_at j P k) j.header.sites) (l.rule 2 k low)) in
    record { site = omega (arith, s.header.few_sites); layout = q.0; mark = q.1 }

pub legal-printable : (j : Job) (P : Placement) → Sound j → Legal j P → Each Printable P
legal-printable j P s l = each_implies Narrow Printable narrow-printable P (legal-narrow j P s l)

-- "9 bytes per cell"
pub legal-room : (j : Job) (P : Placement) → Sound j → Legal j P → length (text_of P) ≤ 9 * length j.cells
legal-room j P s l = omega (arith, narrow-room P (legal-narrow j P s l), l.each)
