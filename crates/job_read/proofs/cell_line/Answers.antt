-- The numbers after the lead make the cell, and decide why its line is refused.
use mathlib.Core.Path.{◌≡◌, sym, ap, ◌∙◌}
use native.Mathlib.Omega.{arith}
use Rattle.std.proofs.lemmas.Result.{err_from_is_err_and}
use Rattle.job.specs.Value.{cell_of}
use Rattle.text_scan.specs.Found.{LedTo}
use Rattle.job_read.specs.Lines.{cell_lead_at, cell-unled, cell-number, cell-passed}
use Rattle.std.specs.Prelude.{None}
use Rattle.job_read.specs.declared.Fault.TheVariants.{Form}
use Rattle.job_read.proofs.cell_line.Goals as goal
use Rattle.job_read.proofs.cell_line.Goals.{In_ok-n}

-- the numbers after the lead
led : (c : In_ok-n) → LedTo (cell_lead_at c.args.text.now c.args.at c.requires) c.args.text.now c.args.at c.in_ok-n.n
led c = rw (c.in_ok-n.ensures.ok_part, c.lead_of-lead.ensures.byte) at c.read_led.ensures

pub returns-in_err-n : goal.returns-in_err-n
returns-in_err-n c =
    let p = err_from_is_err_and c.from_residual.result c.from_residual.ensures.1 in
    let n : c.read_led.result ≡ None = grind arith in
    let f : c.in_err-n.field-0.0 ≡ Form = grind arith in
    let l = rw (n, c.lead_of-lead.ensures.byte) at c.read_led.ensures in
    rw (p.1, p.2, f) (λ j s. sym (cell-unled c.args.text.now c.args.at c.requires l j))

pub returns-in_err-test_cell : goal.returns-in_err-test_cell
returns-in_err-test_cell c =
    let p = err_from_is_err_and c.from_residual-in_err-test_cell.result c.from_residual-in_err-test_cell.ensures.1 in
    let l = led (goal.at-returns-in_err-test_cell c).In_ok-n in
    rw (p.1, p.2)
    (λ j s.
    c.in_err-test_cell.ensures
    ∙ rw c.cell_of-cell.ensures (cell-number c.args.text.now c.args.at c.requires c.in_ok-n.n l c.args.t j s))

pub returns : goal.returns
returns c =
    let l = led (goal.at-returns c).In_ok-n in
    let e = rw c.cell_of-cell.ensures at c.in_ok-test_cell.ensures in
    let p = cell-passed c.args.text.now c.args.at c.requires c.in_ok-n.n l c.args.t (sym e) in
    record {
      passed = λ j s. e ∙ cell-number c.args.text.now c.args.at c.requires c.in_ok-n.n l c.args.t j s;
      past = l.found.past;
      within = l.found.within;
      rest = l.found.rest;
      cell = ap cell_of c.cell_of-cell.ensures ∙ p.cell;
      room = p.few;
    }
