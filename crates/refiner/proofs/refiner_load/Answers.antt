-- `refiner::refiner_load` meets its contract: what `load_text` says, demand 1, and that the reader accepts the job.
use Rattle.demand_laws.specs.Loads.{load_demand1, load-reads}
use Rattle.refiner.proofs.refiner_load.Goals as goal

pub returns : goal.returns
returns c =
    let m = c.load_text.ensures in
    record {
      met = m;
      demand1 = load_demand1 c.args.seed c.args.cells m;
      loaded_of = load-reads c.args.seed c.args.cells m;
    }
