-- What Score reports, by how both texts are read.
use mathlib.Core.Path.{sym, ap}
use mathlib.Core.List.{[]}
use Rattle.definition.specs.Texts.{Text}
use Rattle.definition.specs.Outcome.{Outcome, number_count, score, score_field_count, score_answer}
use Rattle.definition_laws.specs.Outcomes.{score-accepted}
use Rattle.results.specs.declared.Refusal.{Refusal}
use Rattle.results.specs.Refusals.{number_of, line_of}
use Rattle.texts_read.specs.declared.Texts.{Texts}
use Rattle.texts_read.specs.Reading.{BothRead, TextsRefused, as_refused}
use Rattle.op_fault.specs.Fault.{Reported}

pub by-refusal : {job placement : Text} {f : Refusal} → TextsRefused job placement f → Reported job placement (number_of f, line_of f)
unfolding score
by-refusal {job} t =
    let n = number_count job in
    let e = as_refused t (score_field_count n) (λ j P. []) (score_answer n) in
    record { number = sym (ap (λ (o : Outcome). o.number) e); line = sym (ap (λ (o : Outcome). o.line) e) }

pub by-reading : {job placement : Text} {t : Texts} → BothRead job placement t → Reported job placement (0, 0)
by-reading {job} {placement} b =
    let e = score-accepted job b.job placement b.placement in
    record { number = sym (ap (λ (o : Outcome). o.number) e); line = sym (ap (λ (o : Outcome). o.line) e) }
