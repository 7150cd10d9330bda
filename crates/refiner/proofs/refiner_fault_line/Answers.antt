-- `refiner::refiner_fault_line` meets its contract: what `copy_fault` says, and demand 1, which follows.
use Rattle.demand_laws.specs.Demand1.{line_demand1}
use Rattle.refiner.proofs.refiner_fault_line.Goals as goal

pub returns : goal.returns
returns c = let t = c.copy_fault.ensures in record { copied_fault = t; demand1 = line_demand1 t }
