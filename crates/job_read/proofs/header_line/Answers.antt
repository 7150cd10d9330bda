-- The numbers after the lead make the header, and decide why it is refused.
use mathlib.Core.Path.{◌≡◌, sym, ap, ◌∙◌}
use native.Mathlib.Omega.{arith}
use Rattle.std.proofs.lemmas.Result.{err_from_is_err_and}
use Rattle.job.specs.Value.{header_of}
use Rattle.text_scan.specs.Found.{LedTo}
use Rattle.job_read.specs.Lines.{head_lead, head-unled, head-number, head_read}
use Rattle.std.specs.Prelude.{None}
use Rattle.job_read.specs.declared.Fault.TheVariants.{Form}
use Rattle.job_read.proofs.header_line.Goals as goal
use Rattle.job_read.proofs.header_line.Goals.{In_ok-n}

-- the numbers after the lead
led : (c : In_ok-n) → LedTo (head_lead c.args.text.now c.requires) c.args.text.now 0 c.in_ok-n.n
led c = rw (c.in_ok-n.ensures.ok_part, c.lead_of-lead.ensures.byte) at c.read_led.ensures

pub returns-in_err-n : goal.returns-in_err-n
returns-in_err-n c =
    let p = err_from_is_err_and c.from_residual.result c.from_residual.ensures.1 in
    let n : c.read_led.result ≡ None = grind arith in
    let f : c.in_err-n.field-0.0 ≡ Form = grind arith in
    let l = rw (n, c.lead_of-lead.ensures.byte) at c.read_led.ensures in
    rw (p.1, p.2, f) (sym (head-unled c.args.text.now c.requires l))

pub returns-in_err-test_header : goal.returns-in_err-test_header
returns-in_err-test_header c =
    let p = err_from_is_err_and c.from_residual-in_err-test_header.result c.from_residual-in_err-test_header.ensures.1 in
    rw (p.1, p.2)
    (c.in_err-test_header.ensures
    ∙ rw c.header_of-header.ensures (head-number c.args.text.now c.requires c.in_ok-n.n (led (goal.at-returns-in_err-test_header c).In_ok-n)))

pub returns : goal.returns
returns c =
    let l = led (goal.at-returns c).In_ok-n in
    let e = rw c.header_of-header.ensures at c.in_ok-test_header.ensures in
    record {
      passed = sym (e ∙ head-number c.args.text.now c.requires c.in_ok-n.n l);
      within = l.found.within;
      rest = l.found.rest;
      header = ap header_of c.header_of-header.ensures ∙ head_read c.args.text.now c.requires c.in_ok-n.n l (sym e);
    }
