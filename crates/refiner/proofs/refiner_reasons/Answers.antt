-- `refiner::refiner_reasons` meets its contract: what `reasons_texts` says, demand 1, and what can be read of the sentence.
use Rattle.demand_laws.specs.Reasons.{reasons_demand1, reasons-read}
use Rattle.refiner.proofs.refiner_reasons.Goals as goal

pub returns : goal.returns
returns c =
    let m = c.reasons_texts.ensures in
    record {
      met = m;
      demand1 = reasons_demand1 c.args.job.now c.args.placement.now m;
      reasoned_of = reasons-read c.args.job.now c.args.placement.now _ _ m;
    }
