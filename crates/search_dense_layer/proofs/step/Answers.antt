use native.Mathlib.Omega.{arith}
use Rattle.search_dense_layer.specs.Found.{stepped_more}
use Rattle.search_dense_layer.proofs.step.Goals as goal

pub loop-q-preserved : goal.loop-q-preserved
loop-q-preserved c =
    let g = c.requires.grounded in
    let l = c.loop-q in
    stepped_more l.q l.invariant c.put_state.ensures (omega (arith, g.all, g.coded.few)) g.coded.few g.few
