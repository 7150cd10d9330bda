-- Reasons keep demand 1; and what a caller can read of the sentence is the reason of the texts that were lent.
use Rattle.std.specs.Prelude.{ℕ, ◌≤◌, ◌≡◌, refl, Bool, true, false, length, take, leb, ℤ, nat_abs}
use Rattle.std.proofs.Common.{sym, subst, ◌∙◌, arith}
use Rattle.std.proofs.Math.Path.{ap}
use Rattle.std.proofs.lemmas.Bool.{false≢true}
use mathlib.Core.List.{List, []}
use Rattle.std.proofs.Math.ListN.{get_or}
use Rattle.std.proofs.Math.IntN.{pos}
use Rattle.lists.specs.Compare.{Le?, low, high, le?}
use Rattle.definition.specs.Texts.{Text, bytes, value_from}
use Rattle.definition.specs.Job.{Job, Reading, refused, accepted, read_job}
use Rattle.definition.specs.Placement.{Placement, Poses, fault, poses, read_placement}
use Rattle.definition.specs.Rules.{verdict}
use Rattle.definition.specs.Outcome.{Outcome, without_line, refused_by, text_field_count, outcome_of}
use Rattle.definition.specs.Outcome.{text_answer, results_of, score, number_count, score_fields, Buffers, Met, over}
use Rattle.definition.specs.Reasons.{Reason, reason_of, sentence, read_reason, reasons_room, room_refusal}
use Rattle.definition.specs.Reasons.{reasons_refusals, reasons_answer, reasons, ReasonedOf, Reasoned}
use Rattle.definition.specs.Reasons.{split_by, same_text, number_among, rule_said, cells_said}
use Rattle.definition.specs.Demands.{reasons_shape, Demand1}
use Rattle.definition_laws.specs.Outcomes.{first-refuses, first_passes, none-refuses, score-accepted}
use Rattle.definition_laws.specs.Over.{over-at, take-over}
use Rattle.job_laws.specs.Refused.{job-refused}
use Rattle.reason_laws.specs.Breakers.{first-named}
use Rattle.reason_laws.specs.Sentences.{sentences}
use Rattle.reason_laws.specs.Outcomes.{room-short, room-enough}
use Rattle.reason_laws.specs.Outcomes.{reasons-refused, reasons-fault, reasons-short, reasons-answered}
use Rattle.demand_laws.specs.Fair.{Fair, fair_demand1, refusal-fair}
use Rattle.demand_laws.specs.Demand1.{AsScore, known, as_read, as_score-fair}

-- ---- demand 1

reasons_as_score : AsScore reasons_shape
reasons_as_score = record {
  reads = as_read reasons_shape refl
      (known refl refl refl) (known refl refl refl) (known refl refl refl) (known refl refl refl);
  fifth = known refl refl refl;
}

reasons-keep : (job placement : Text) (room : ℕ) → Fair reasons_shape room (reasons job placement room)
unfolding reasons
reasons-keep job placement room =
    as_score-fair reasons_shape reasons_as_score room (reasons_refusals room) reasons_answer job placement
    (λ j r P e. lent j r P (leb reasons_room room) (le? reasons_room room))
  where
    lent : (j : Job) → read_job job ≡ accepted j → (P : Placement) → (t : Bool) → Le? reasons_room room t
        → Fair reasons_shape room (outcome_of text_field_count (reasons_refusals room j P) (reasons_answer j P))
    lent j r P true (low h) =
        let fits = sentences.fits (reason_of j P) (sentences.of-job job j r P) in
        subst (Fair reasons_shape room)
        (sym (first_passes text_field_count (without_line (room_refusal room)) [] _ (room-enough room h)
        ∙ none-refuses text_field_count (reasons_answer j P)))
        (record {
          led = refl;
          numbered = refl;
          located = refl;
          counted = refl;
          fits = omega arith;
          no_fields = λ z. absurd (false≢true z);
          no_text = λ z. absurd (false≢true z);
          searches = refl;
        })
    lent j r P false (high h) =
        let n = room-short room h in
        subst (Fair reasons_shape room)
        (sym (first-refuses text_field_count (without_line (room_refusal room)) [] _ (λ z. omega arith)
        ∙ ap (λ (k : ℕ). refused_by text_field_count (without_line k)) n))
        (refusal-fair reasons_shape room (without_line 11) refl refl refl refl)

pub reasons_demand1 : (job placement : Text) {returned : ℕ} {before end : Buffers}
    → Met (reasons job placement (length before.output)) returned before end
    → Demand1 reasons_shape returned before end
reasons_demand1 job placement {before = before} m =
    fair_demand1 (reasons-keep job placement (length before.output)) m

-- ---- what a caller can read

module _ (job placement : Text) (before end : Buffers) where
  abbrev room : ℕ
  room = length before.output

  -- an answer to texts that were read
  module _ (m : Met (reasons job placement room) 0 before end) (j : Job) (e : read_job job ≡ accepted j) (P : Placement)
      (p : read_placement (length j.cells) placement ≡ poses P) (h : reasons_room ≤ room) where
    back : read_reason (sentence (reason_of j P)) ≡ reason_of j P
    back = sentences.reads-back (reason_of j P) (sentences.of-job job j e P)

    scored : (score job placement).fields ≡ score_fields (number_count job) j P (verdict j P)
    scored = ap (λ (o : Outcome). o.fields) (score-accepted job e placement p)

    answer : reasons job placement room ≡ text_answer (sentence (reason_of j P))
    answer = reasons-answered room job placement e p h

    reasoned : Reasoned job placement before end
    unfolding reason_of score_fields
    reasoned =
        let short = sentences.fits (reason_of j P) (sentences.of-job job j e P) in
        record {
          text = sentence (reason_of j P);
          fits = omega arith;
          written = m.written ∙ ap (λ (o : Outcome). over o.text before.output) answer;
          stated = λ l.
              ap (λ (r : List ℤ). get_or r 2 (pos 0)) m.told.array
              ∙ ap (λ (o : Outcome). get_or (over (results_of o) before.results) 2 (pos 0)) answer
              ∙ over-at (results_of (text_answer (sentence (reason_of j P)))) before.results 2 (pos 0) (omega arith) l;
          job_read = j;
          placement_read = P;
          accepts = e;
          posed = p;
          reads = back;
          rule = ap (λ (l : List ℤ). get_or l 0 (pos 0)) scored ∙ ap (λ (r : Reason). pos r.rule) (sym back);
          cell = ap (λ (l : List ℤ). get_or l 1 (pos 0)) scored ∙ ap pos (first-named j P)
              ∙ ap (λ (r : Reason). pos (get_or r.cells 0 0)) (sym back);
        }

  -- any other number is none of an answer's
  otherwise : {n : ℕ} → (reasons job placement room).number ≡ n → (n ≡ 0 → ⊥)
      → Met (reasons job placement room) 0 before end → Reasoned job placement before end
  otherwise e d m = absurd (d (sym e ∙ sym m.told.number))

  number_is : {o : Outcome} → reasons job placement room ≡ o → (reasons job placement room).number ≡ o.number
  number_is e = ap (λ (o : Outcome). o.number) e

  answers : Met (reasons job placement room) 0 before end → Reasoned job placement before end
  answers m = go (read_job job) refl
    where
      enough : (j : Job) → read_job job ≡ accepted j
          → (P : Placement) → read_placement (length j.cells) placement ≡ poses P
          → (t : Bool) → Le? reasons_room room t → Reasoned job placement before end
      enough j e P p true (low h) = reasoned m j e P p h
      enough j e P p false (high h) =
          otherwise (number_is (reasons-short room job placement e p h)) (λ z. omega arith) m

      posed : (j : Job) → read_job job ≡ accepted j → (p : Poses) → read_placement (length j.cells) placement ≡ p
          → Reasoned job placement before end
      posed j e (fault line) p =
          otherwise (number_is (reasons-fault room job placement e p)) (λ z. omega arith) m
      posed j e (poses P) p = enough j e P p (leb reasons_room room) (le? reasons_room room)

      go : (x : Reading) → read_job job ≡ x → Reasoned job placement before end
      go (refused n line) e =
          let some = (job-refused job n line e).some in
          otherwise (number_is (reasons-refused room job placement e (λ z. omega arith))) (λ z. omega arith) m
      go (accepted j) e = posed j e (read_placement (length j.cells) placement) refl

  pub reasons-read : {returned : ℕ} → Met (reasons job placement room) returned before end
      → ReasonedOf job placement returned before end
  reasons-read m z = answers (subst (λ (n : ℕ). Met (reasons job placement room) n before end) z m)

-- ---- the claim at work: who sees these bytes, and that they are the sentence, learns Score's rule and cell

pub overlap-seen : {job placement : Text} {before end : Buffers} → ReasonedOf job placement 0 before end
    → length before.results ≡ 3 → get_or end.results 2 (pos 0) ≡ pos 24
    → take 24 end.output ≡ bytes "overlap: cell 1, cell 2."
    → (get_or (score job placement).fields 0 (pos 0) ≡ pos 4) × (get_or (score job placement).fields 1 (pos 0) ≡ pos 1)
unfolding bytes split_by same_text number_among rule_said cells_said read_reason value_from
overlap-seen {before = before} {end} claim three length-is seen =
    let r = claim refl in
    let long : length r.text ≡ 24 = ap nat_abs (sym (r.stated (omega arith)) ∙ length-is) in
    let said : r.text ≡ bytes "overlap: cell 1, cell 2." =
    sym (take-over r.text before.output r.fits)
    ∙ ap (λ (n : ℕ). take n (over r.text before.output)) long
    ∙ ap (take 24) (sym r.written)
    ∙ seen in (
      r.rule ∙ ap (λ (t : Text). pos (read_reason t).rule) said,
      r.cell ∙ ap (λ (t : Text). pos (get_or (read_reason t).cells 0 0)) said,
    )
