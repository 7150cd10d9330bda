-- The lane has the least of state t, and the start has the sum there.
use mathlib.Core.Path.{subst}
use native.Mathlib.Omega.{arith}
use Rattle.search_join.specs.Sums.{WayTo}
use Rattle.search_join.specs.CaseLaws.{lane-there, lane-met, start-there, case-way}
use Rattle.search_join.proofs.pointer_of.Goals as goal

pub unwrap-lane-requires : goal.unwrap-lane-requires
unwrap-lane-requires c = lane-there c.requires _ c.cost_at-p1.ensures c.lane_of.ensures

pub unwrap-s-requires : goal.unwrap-s-requires
unwrap-s-requires c =
    let met = lane-met c.requires _ c.cost_at-p1.ensures c.lane_of.ensures c.unwrap-lane.ensures in
    start-there c.requires _ met c.start_of.ensures

pub returns : goal.returns
returns c =
    let met = lane-met c.requires _ c.cost_at-p1.ensures c.lane_of.ensures c.unwrap-lane.ensures in
    let way = case-way c.requires _ met c.start_of.ensures c.unwrap-s.ensures in
    subst (WayTo c.args.join c.args.store.now c.args.case c.args.value) (omega arith) way.0
