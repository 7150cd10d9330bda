use native.Mathlib.Omega.{arith}
use Rattle.theory_tables.specs.Steps.{first_after}
use Rattle.search_dense_first.specs.Begun.{begun_ext}
use Rattle.search_dense_first.specs.Starts.{first_layer}
use Rattle.search_dense_first.proofs.after.Goals as goal

pub returns : goal.returns
unfolding first_layer first_after
returns c =
    let g = c.requires.layer.grounded in
    let e = g.coded.mark c.args.s (omega (arith, g.all)) in
    begun_ext c.put_layer.ensures (λ q a. rw e)
