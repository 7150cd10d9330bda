use mathlib.Core.Path.{refl}
use mathlib.Core.Bool.{false≢true}
use native.Mathlib.Omega.{arith}
use Rattle.text_scan.proofs.Sofar.{sofar-none, sofar-more, sofar-end, sofar-empty, sofar-stop, sofar-out}
use Rattle.text_scan.proofs.read_number.Goals as goal

pub loop-i-init : goal.loop-i-init
loop-i-init c = sofar-none _ _ c.requires

pub returns-then-i-from : goal.returns-then-i-from
returns-then-i-from c = sofar-empty c.loop-i.invariant c.in-Some.end c.loop-i-test.true c.in-Some.ensures c.if-i-from.true

pub returns-in-Some : goal.returns-in-Some
returns-in-Some c = sofar-end c.loop-i.invariant c.in-Some.end c.loop-i-test.true c.in-Some.ensures (omega arith)

pub returns-then-not-is_more : goal.returns-then-not-is_more
returns-then-not-is_more c = sofar-stop c.loop-i.invariant c.loop-i-test.true c.in_default.ensures (λ m. false≢true (c.if-not-is_more.ensures.1 m))

pub loop-i-preserved : goal.loop-i-preserved
loop-i-preserved c = rw c.from.ensures (sofar-more c.loop-i.invariant c.loop-i-test.true (c.if-not-is_more.ensures.0 refl))

pub returns : goal.returns
returns c = sofar-out c.loop-i.invariant c.loop-i-test.false
