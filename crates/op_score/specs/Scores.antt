-- What Score's answer stands for: the outcome of document 01, but for the buffers that it does not have.
use Rattle.std.specs.Prelude.{ℕ, ◌^◌, ◌<◌, ◌≡◌, [], Result, MatchResult}
use Rattle.definition.specs.Texts.{Text}
use Rattle.definition.specs.Outcome.{Outcome, refused_by, number_count, score_field_count, score_answer, score}
use Rattle.job.specs.declared.Job.{Job}
use Rattle.job.specs.declared.Placement.{Placement}
use Rattle.job.specs.Ready.{Ready}
use Rattle.results.specs.declared.Refusal.{Refusal}
use Rattle.results.specs.declared.Fields.{Fields}
use Rattle.results.specs.Fields.{Listed}
use Rattle.results.specs.Refusals.{refusal_of, line_of}
use Rattle.score_numbers.specs.Counted.{SixOrSeven}
use Rattle.texts_read.specs.Reading.{TextsRefused, as_refused}

-- a job and a placement that may be scored, and how many numbers are asked for
pub record ToScore (job : Job) (P : Placement) (count : ℕ) : Type 0 where
  pub ready : Ready job P
  pub many : SixOrSeven count

-- an answer of these fields
pub record Answers (o : Outcome) (f : Fields) : Type 0 where
  pub number : o.number ≡ 0
  pub line : o.line ≡ 0
  pub fields : Listed o.fields f

-- a refusal with n fields of zero, at a line that a signed number can tell
pub record Refuses (o : Outcome) (n : ℕ) (f : Refusal) : Type 0 where
  pub outcome : o ≡ refused_by n (refusal_of f)
  pub line : line_of f < 2 ^ 31

abbrev pub Scores : Outcome → ℕ → Result Fields Refusal → Type 0
Scores o n r = MatchResult r (λ f. Answers o f) (λ e. Refuses o n e)

pub texts-refused : {job placement : Text} {f : Refusal} → TextsRefused job placement f
    → Refuses (score job placement) (score_field_count (number_count job)) f
unfolding score
texts-refused {job} t = record {
  outcome = as_refused t (score_field_count (number_count job)) (λ j P. []) (score_answer (number_count job));
  line = t.line;
}
