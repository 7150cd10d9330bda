-- Each turn lowers one row more to the row before, which ran up already.
use Rattle.std.proofs.Common.{◌≡◌, ◌+◌}
use Rattle.search_dense_layer.specs.Thin.{FarRunUp}
use Rattle.search_dense_layer.proofs.Buckets.run_up.Given as goal

abbrev pub invariant-loop-t : goal.invariant-loop-t
invariant-loop-t l =
    (l.self.near ≡ l.initial.self.near)
    × (l.self.apart ≡ l.initial.self.apart)
    × FarRunUp (l.t + 1) l.initial.self.far l.self.far
