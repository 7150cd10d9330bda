-- No mark has been made.
use Rattle.std.proofs.Common.{arith, replicate, false, length-take-le}
use Rattle.definition.specs.Job.{max_cells}
use Rattle.score_cell_rules.specs.Marks.{unmarked_fresh}
use Rattle.score_verdict.proofs.verdict_of.Goals as goal

pub judge-requires : goal.judge-requires
judge-requires c =
    record {
      ready = c.requires;
      long = length-take-le c.args.job.count (replicate max_cells false) (omega (arith, c.requires.accepted.few));
      clear = unmarked_fresh c.args.job.count max_cells;
    }
