use Rattle.std.proofs.Common.{sym, ◌∙◌}
use Rattle.score_numbers.proofs.numbers_of.Goals as goal

pub numbers_from-requires : goal.numbers_from-requires
numbers_from-requires c =
    let f = c.stands_of-stands.ensures.flat in
    record { ready = c.requires; flat = f; count = sym f.count ∙ c.requires.accepted.many }
