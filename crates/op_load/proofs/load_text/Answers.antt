-- Refused before anything is written, or the text and its length.
use mathlib.Core.Path.{◌≡◌, sym, ap, ◌∙◌}
use native.Mathlib.Omega.{arith}
use lib.ListN.{length}
use Rattle.definition.specs.Load.{load_refusal}
use Rattle.definition.specs.Outcome.{Refusal, text_field_count, refused_by}
use Rattle.results.specs.Refusals.{number_of, refusal_of, numbered}
use Rattle.text_write.specs.Answers.{met-refused, met-text}
use Rattle.load_laws.specs.Accepted.{load-short}
use Rattle.load_laws.specs.Outcomes.{load-tried, load-refused, load-answered}
use Rattle.op_load.proofs.load_text.Goals as goal

pub returns-in-Err : goal.returns-in-Err
returns-in-Err c =
    let f = c.in-Err.refusal in
    let e = c.in-Err.ensures in
    let some = (numbered f).some in
    let number : number_of f ≡ load_refusal c.args.cells (length c.args.output.now) = ap (λ (r : Refusal). r.number) e in
    met-refused text_field_count (refusal_of f)
    (load-refused c.args.seed c.args.cells (length c.args.output.now) (λ z. omega arith)
    ∙ ap (refused_by text_field_count) (sym e))
    c.refuse_by.ensures.number
    c.refuse_by.ensures.array

pub put_load-length-requires : goal.put_load-length-requires
put_load-length-requires c =
    let q = load-tried c.args.cells (length c.args.output.now) in
    let z = c.in_default.ensures in
    record { few = q.few z; enough = q.enough z }

pub answer_one-requires : goal.answer_one-requires
answer_one-requires c =
    let q = load-tried c.args.cells (length c.args.output.now) in
    omega (arith, c.put_load-length.ensures.cursor, load-short c.args.seed c.args.cells (q.few (c.in_default.ensures)))

pub returns : goal.returns
returns c =
    met-text (load-answered c.args.seed c.args.cells (length c.args.output.now) (c.in_default.ensures))
    c.put_load-length.ensures c.answer_one.ensures
