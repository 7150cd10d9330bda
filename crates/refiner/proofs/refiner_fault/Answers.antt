-- `refiner::refiner_fault` meets its contract: what `tell_fault` says, and demand 1, which follows.
use Rattle.demand_laws.specs.Demand1.{fault_demand1}
use Rattle.refiner.proofs.refiner_fault.Goals as goal

pub returns : goal.returns
returns c = let t = c.tell_fault.ensures in record { told_fault = t; demand1 = fault_demand1 t }
