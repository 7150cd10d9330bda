-- The cells that `judge` leaves marked are listed.
use Rattle.std.proofs.Common.{rules, arith, ◌≡◌, replicate, false, length-take-le}
use Rattle.definition.specs.Job.{max_cells}
use Rattle.score_cell_rules.specs.Marks.{unmarked_fresh}
use Rattle.score_verdict.specs.Judged.{rule_in}
use Rattle.score_reason.specs.Reasons.{listed_reason}
use Rattle.score_reason.proofs.reason_of.Goals as goal

pub judge-breach-requires : goal.judge-breach-requires
judge-breach-requires c =
    record {
      ready = c.requires;
      long = length-take-le c.args.job.count (replicate max_cells false) (omega (arith, c.requires.accepted.few));
      clear = unmarked_fresh c.args.job.count max_cells;
    }

pub returns : goal.returns
returns c =
    let e : c.map_or.result ≡ rule_in c.judge-breach.result = search rules in
    listed_reason c.judge-breach.ensures (search rules) e c.list_marked-count.ensures
