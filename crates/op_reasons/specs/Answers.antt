-- What the texts are refused by, and that the room that is asked of the output is enough for every sentence.
use Rattle.std.specs.Prelude.{ℕ, ◌^◌, ◌<◌, ◌≤◌, ◌≡◌, Result, MatchResult, List, length, take}
use Rattle.std.proofs.Common.{ap, arith}
use Rattle.definition.specs.Texts.{Text}
use Rattle.definition.specs.Outcome.{refused_by, text_field_count}
use Rattle.definition.specs.Reasons as definition
use Rattle.definition.specs.Reasons.{reason_of, sentence, reasons_room, reasons_refusals, reasons_answer, reasons}
use Rattle.job.specs.declared.Job.{Job}
use Rattle.job.specs.declared.Placement.{Placement}
use Rattle.job.specs.Value.{job_of, placement_of}
use Rattle.job.specs.Ready.{Ready}
use Rattle.texts_read.specs.declared.Texts.{Texts}
use Rattle.texts_read.specs.Reading.{BothRead, TextsRefused, as_refused}
use Rattle.results.specs.declared.Refusal.{Refusal}
use Rattle.results.specs.Refusals.{refusal_of, line_of}
use Rattle.score_reason.specs.declared.Reason.{Reason}
use Rattle.score_reason.specs.Reasons.{ReasonIs}
use Rattle.reason_write.specs.Sentences.{SentenceRoom}
use Rattle.reason_laws.specs.Breakers.{is_reason}
use Rattle.reason_laws.specs.Lengths.{sentence-short}

-- both texts, and an output that 11 does not refuse
pub record RoomToo (job placement : Text) (room : ℕ) (t : Texts) : Type 0 where
  pub both : BothRead job placement t
  pub enough : reasons_room ≤ room

-- or what is refused, at a line that a signed number can tell
pub record ReasonsRefused (job placement : Text) (room : ℕ) (f : Refusal) : Type 0 where
  pub outcome : reasons job placement room ≡ refused_by text_field_count (refusal_of f)
  pub line : line_of f < 2 ^ 31

abbrev pub ReadWithRoom : Text → Text → ℕ → Result Texts Refusal → Type 0
ReadWithRoom job placement room r =
    MatchResult r (λ t. RoomToo job placement room t) (λ f. ReasonsRefused job placement room f)

pub texts-refused : {job placement : Text} {f : Refusal} → TextsRefused job placement f
    → (room : ℕ) → ReasonsRefused job placement room f
unfolding reasons
texts-refused t room = record { outcome = as_refused t text_field_count (reasons_refusals room) reasons_answer; line = t.line }

-- a job and a placement that may be scored, and an output that 11 does not refuse
pub record ReasonRoom (job : Job) (placement : Placement) (output : List ℕ) : Type 0 where
  pub ready : Ready job placement
  pub enough : reasons_room ≤ length output

-- the definition's reason, of a job and a placement that may be scored
abbrev pub reason_at : Job → Placement → definition.Reason
reason_at job placement = reason_of (job_of job) (placement_of placement)

pub reason_short : {job : Job} {placement : Placement} → Ready job placement
    → length (sentence (reason_at job placement)) ≤ reasons_room
reason_short {job} {placement} ready =
    let few = ready.accepted.few in
    sentence-short (reason_at job placement)
    (is_reason (job_of job) (placement_of placement) (omega (arith, ready.accepted.many)))

-- what the program has is that reason
pub same_reason : {v : definition.Reason} {r : Reason} → ReasonIs v r
    → record { rule = r.rule; cells = take r.count r.cells } ≡ v
same_reason h = λ i. record { rule = h.rule i; cells = h.cells i }

module _ {job : Job} {placement : Placement} {output : List ℕ} {r : Reason} (room : ReasonRoom job placement output)
    (h : ReasonIs (reason_at job placement) r) where
  pub sentence-room : SentenceRoom r.rule r.cells r.count output
  sentence-room = record {
    lent = omega (arith, h.few, h.long);
    room = record {
      fits = omega (
        arith,
        room.enough,
        reason_short room.ready,
        ap (λ (v : definition.Reason). length (sentence v)) (same_reason h),
      );
    };
  }
