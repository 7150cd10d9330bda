use native.Mathlib.Omega.{arith}
use Rattle.std.proofs.Common.{refl}
use Rattle.search_dense_layer.specs.Found.{run_none, run_more}
use Rattle.search_dense_layer.proofs.Buckets.run_up.Goals as goal

pub loop-t-init : goal.loop-t-init
loop-t-init c = (refl, refl, run_none c.requires.low)

pub loop-t-preserved : goal.loop-t-preserved
loop-t-preserved c =
    let l = c.loop-t in
    (l.invariant.0, l.invariant.1, run_more l.t c.lesser.result l.invariant.2 (omega arith) (omega (arith, c.lesser.ensures)))
