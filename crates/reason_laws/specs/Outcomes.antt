-- What a call gives, case by case: 1 to 5 as Score, 11, or the sentence.
use Rattle.std.specs.Prelude.{ℕ, ◌≤◌, ◌<◌, ◌≡◌, [], length}
use Rattle.std.proofs.Common.{ap, ◌∙◌, arith, le-leb}
use Rattle.std.proofs.lemmas.Bool.{lt-leb}
use Rattle.definition.specs.Texts.{Text}
use Rattle.definition.specs.Job.{Job, refused, accepted, read_job, first_failing}
use Rattle.definition.specs.Placement.{Placement, fault, poses, read_placement}
use Rattle.definition.specs.Outcome.{without_line, refused_by, text_field_count, text_answer, outcome_of}
use Rattle.definition.specs.Reasons.{reason_of, sentence, reasons_room, room_refusal, reasons_refusals}
use Rattle.definition.specs.Reasons.{reasons_answer, reasons}
use Rattle.definition_laws.specs.Outcomes.{first-refuses, first_passes, none-refuses}
use Rattle.definition_laws.specs.Outcomes.{job-refuses, poses-refuse, poses_pass}

-- ---- the number, by the output

pub room-short : (room : ℕ) → room < reasons_room → room_refusal room ≡ 11
unfolding room_refusal first_failing
room-short room h = rw (lt-leb reasons_room room h)

pub room-enough : (room : ℕ) → reasons_room ≤ room → room_refusal room ≡ 0
unfolding room_refusal first_failing
room-enough room h = rw (le-leb reasons_room room h)

-- ---- the outcome

module _ (room : ℕ) (job placement : Text) where
  pub reasons-refused : {number line : ℕ} → read_job job ≡ refused number line → (number ≡ 0 → ⊥)
      → reasons job placement room ≡ refused_by text_field_count (record { number = number; line = line })
  unfolding reasons
  reasons-refused e d = job-refuses text_field_count (reasons_refusals room) reasons_answer job e d placement

  module _ {j : Job} (e : read_job job ≡ accepted j) where
    pub reasons-fault : {line : ℕ} → read_placement (length j.cells) placement ≡ fault line
        → reasons job placement room ≡ refused_by text_field_count (record { number = 5; line = line })
    unfolding reasons
    reasons-fault p = poses-refuse text_field_count (reasons_refusals room) reasons_answer job e placement p

    module _ {P : Placement} (p : read_placement (length j.cells) placement ≡ poses P) where
      read : reasons job placement room ≡ outcome_of text_field_count (reasons_refusals room j P) (reasons_answer j P)
      unfolding reasons
      read = poses_pass text_field_count (reasons_refusals room) reasons_answer job e placement p

      pub reasons-short : room < reasons_room → reasons job placement room ≡ refused_by text_field_count (without_line 11)
      reasons-short h =
          let n = room-short room h in
          read
          ∙ first-refuses text_field_count (without_line (room_refusal room)) [] _ (λ z. omega arith)
          ∙ ap (λ (k : ℕ). refused_by text_field_count (without_line k)) n

      pub reasons-answered : reasons_room ≤ room → reasons job placement room ≡ text_answer (sentence (reason_of j P))
      reasons-answered h =
          read
          ∙ first_passes text_field_count (without_line (room_refusal room)) [] _ (room-enough room h)
          ∙ none-refuses text_field_count _
