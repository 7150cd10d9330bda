-- Demand 2 of Score, and that Score reads what Place writes as legal, with the very numbers that Place gave.
use Prim.Native.Nat.{ℕ, zero, suc, ◌-◌, ◌<◌}
use Rattle.std.specs.Prelude.{◌≡◌, refl, true, false, ◌∷◌, length, replicate, eqb}
use Rattle.std.proofs.Common.{sym, ◌∙◌, subst}
use Rattle.std.proofs.Math.Path.{ap, ap₂}
use Rattle.std.proofs.Math.Option.{Option, none, some}
use Rattle.std.proofs.Math.Bool.{cond}
use native.Mathlib.Omega.{arith}
use Rattle.std.proofs.Math.IntN.{pos}
use Rattle.definition.specs.Texts.{Text}
use Rattle.definition.specs.Job.{Job, Reading, refused, accepted, read_job}
use Rattle.definition.specs.Placement.{Placement, Printable, poses, read_placement, text_of}
use Rattle.definition.specs.Rules.{Legal, rules, rule_of, Verdict, verdict}
use Rattle.definition.specs.Moves.{Cheapest}
use Rattle.definition.specs.Outcome.{Outcome, answered, score, score_answer, score_fields, numbers, number_count}
use Rattle.definition.specs.Outcome.{place_answer, buffer_refusal, Buffers, Placed, over, results_of}
use Rattle.definition.specs.Demands.{broken, Demand2, Demand2Of, OneText, Rescored, RescoredOf}
use Rattle.definition_laws.specs.Agree.{verdict-legal}
use Rattle.definition_laws.specs.Outcomes.{score-accepted, place-refused, place-buffers, place-accepted}
use Rattle.definition_laws.specs.FirstBroken.{Broken, first-broken, none-broken}
use Rattle.job_laws.specs.Refused.{job-refused}
use Rattle.job_laws.specs.Whole.{accepted-sound}
use Rattle.text_laws.proofs.Poses.{read-prints, read_printed}
use Rattle.text_laws.specs.Room.{each_at, at_each}
use Rattle.text_laws.proofs.Room.{legal-room, legal-printable}
use Rattle.demand_laws.specs.Demand1.{buffers}

-- the verdict names a rule: which, and of which cell
named : (j : Job) (P : Placement) → ¬ ((verdict j P).rule ≡ 0) → Broken (rules j P) 0 (length j.cells) (verdict j P)
unfolding verdict
named j P z = first-broken (rules j P) 0 (length j.cells) z

module _ (j : Job) (P : Placement) (n : length P ≡ length j.cells) where
  abbrev v : Verdict
  v = verdict j P

  no_cell : v.rule ≡ 0 → v.cell ≡ 0
  unfolding verdict
  no_cell e = none-broken (rules j P) 0 (length j.cells) e

  -- the rule by its place in the list, and the cell counted from 0
  module _ (b : Broken (rules j P) 0 (length j.cells) v) where
    rule-at : v.rule ≡ suc b.index
    rule-at = let e = b.rule-is in omega arith

    cell_at : v.cell - 1 ≡ b.cell
    cell_at = let e = b.cell-is in omega arith

    that_cell : broken j P v.rule v.cell ≡ true
    that_cell = ap₂ (rule_of j P) rule-at cell_at ∙ b.breaks

    no_lower : (k : ℕ) → 0 < k → k < v.cell → broken j P v.rule k ≡ false
    no_lower k h g =
        ap (λ i. rule_of j P i (k - 1)) rule-at ∙ b.lower (k - 1) (let e = b.cell-is in omega arith)

  pub judged : (count : ℕ) → Demand2 count j P (score_answer count j P)
  unfolding score_fields
  judged count = record {
    rule = v.rule;
    cell = v.cell;
    legal_when = verdict-legal j P n;
    no_cell = no_cell;
    breaks = λ z.
        let b = named j P z in
        let e = b.rule-is in
        let f = b.cell-is in
        let w = b.within in
        let t = b.there in
        (omega arith, omega arith, omega arith, that_cell b);
    first = λ r k h g i l.
        let b = named j P (λ z. omega arith) in
        let e = b.rule-is in
        let q : r ≡ suc (r - 1) = omega arith in
        ap (λ x. rule_of j P x (k - 1)) q ∙ b.earlier (r - 1) (k - 1) (omega arith) (omega arith);
    lowest = λ z k h g. no_lower (named j P z) k h g;
    number = refl;
    fields = refl;
  }

pub score_demand2 : (job placement : Text) → Demand2Of job placement
score_demand2 job placement j r P e =
    let p = read-prints (length j.cells) placement P e in
    subst (Demand2 (number_count job) j P) (sym (score-accepted job r placement e))
    (judged j P p.count (number_count job))

pub texts : OneText
texts = record {
  reads-back = λ P h. read_printed P (each_at Printable P h);
  one-text = λ n text P e. (read-prints n text P e).prints;
  in_range = λ n text P e. at_each Printable P (read-prints n text P e).small;
}

-- ---- what Place writes

-- the text of a legal placement of an accepted job
module _ (job : Text) (j : Job) (r : read_job job ≡ accepted j) (P : Placement) (l : Legal j P) where
  read_back : read_placement (length j.cells) (text_of P) ≡ poses P
  read_back =
      ap (λ n. read_placement n (text_of P)) (sym l.each)
      ∙ read_printed P (legal-printable j P (accepted-sound job j r) l)

  fine : (verdict j P).rule ≡ 0
  fine = (verdict-legal j P l.each).1 l

  pub rescored : score job (text_of P) ≡ answered (pos 0 ∷ pos 0 ∷ numbers (number_count job) j P)
  unfolding score_fields
  rescored =
      score-accepted job r (text_of P) read_back
      ∙ ap₂ (λ (x y : ℕ). answered (pos x ∷ pos y
      ∷ cond (eqb x 0) (numbers (number_count job) j P) (replicate (number_count job) (pos 0)))) fine
      (no_cell j P l.each fine)

pub place-rescored : {job : Text} {returned : ℕ} {before end : Buffers} → Placed job returned before end
    → RescoredOf job returned before end
place-rescored {job} {returned} {before} {end} p z = go (read_job job) refl
  where
    words : ℕ
    words = length before.store

    room : ℕ
    room = length before.output

    o : Outcome
    o = p.outcome

    number : o.number ≡ 0
    number = sym p.met.told.number ∙ z

    answer : (j : Job) → read_job job ≡ accepted j → buffer_refusal j words room ≡ 0 → (a : Option Placement)
        → Cheapest j a → o ≡ place_answer (number_count job) j a → Rescored job before end
    answer j r b none c e = absurd (let n = ap (λ x. x.number) e in omega (arith, number))
    answer j r b (some P) c e =
        let s = rescored job j r P (c.legal P refl) in
        let short = legal-room j P (accepted-sound job j r) (c.legal P refl) in
        record {
          text = text_of P;
          given = numbers (number_count job) j P;
          fits = omega (arith, short, (buffers j words room).enough b);
          written = p.met.written ∙ ap (λ x. over x.text before.output) e;
          array = p.met.told.array ∙ ap (λ x. over (results_of x) before.results) e;
          number = ap (λ x. x.number) s;
          fields = ap (λ x. x.fields) s;
        }

    lent-enough : (j : Job) → read_job job ≡ accepted j → (n : ℕ) → buffer_refusal j words room ≡ n
        → Rescored job before end
    lent-enough j r zero b =
        answer j r b p.gives.answer (p.gives.cheapest j r b)
        (p.gives.outcome ∙ place-accepted job r (number_count job) words room p.gives.answer b)
    lent-enough j r (suc n) b =
        let z : buffer_refusal j words room ≡ 0 → ⊥ = λ y. omega arith in
        let e = p.gives.outcome ∙ place-buffers job r (number_count job) words room p.gives.answer z in
        absurd (let q = ap (λ x. x.number) e in omega (arith, number))

    go : (x : Reading) → read_job job ≡ x → Rescored job before end
    go (refused n line) r =
        let s = (job-refused job n line r).some in
        let e =
        p.gives.outcome
        ∙ place-refused job r (λ y. omega arith) (number_count job) words room p.gives.answer in
        absurd (let q = ap (λ x. x.number) e in omega (arith, number))
    go (accepted j) r = lent-enough j r (buffer_refusal j words room) refl
