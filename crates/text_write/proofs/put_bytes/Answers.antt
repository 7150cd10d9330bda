-- Each turn puts one byte more.
use Prim.Native.Nat.{◌<◌}
use native.Mathlib.Omega.{arith}
use native.Mathlib.Numerals.{add-one}
use lib.ListN.{length}
use lib.Seq.{take-suc}
use Rattle.text_write.specs.Puts.{wrote_none, then}
use Rattle.text_write.proofs.put_bytes.Goals as goal

pub loop-b-init : goal.loop-b-init
loop-b-init c = wrote_none c.args.output.now c.args.at

pub loop-b-preserved : goal.loop-b-preserved
loop-b-preserved c =
    let i = c.loop-b.b-index in
    let h : i < length c.args.text.now = omega arith in
    rw (add-one i, take-suc c.args.text.now i 0) (then c.loop-b.invariant c.put_byte-p.ensures)
