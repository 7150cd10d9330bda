-- `refiner::refiner_place` meets its contract: what `place_texts` says, and demands 1 and 3, which
-- follow.
use Rattle.definition_laws.specs.PlaceClaim.{place_demand3}
use Rattle.demand_laws.specs.Demand1.{place_demand1}
use Rattle.refiner.proofs.refiner_place.Goals as goal

pub returns : goal.returns
returns c =
    let p = c.place_texts.ensures in record { placed = p; demand1 = place_demand1 p; demand3of = place_demand3 p }
