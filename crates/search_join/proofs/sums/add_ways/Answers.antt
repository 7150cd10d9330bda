-- The first ways of a state are written, with its flag; later ones lower its row.
use Rattle.search_join.specs.SumLaws.{ways-first, ways-more}
use Rattle.search_join.proofs.sums.add_ways.Goals as goal

pub returns-then-sums-t-eq0 : goal.returns-then-sums-t-eq0
returns-then-sums-t-eq0 c =
    ways-first c.requires.row.room c.requires.state c.requires.narrow c.if-sums-t-eq0.true c.put_sums.ensures

pub returns : goal.returns
returns c =
    ways-more c.requires.row.room c.requires.state c.requires.narrow c.if-sums-t-eq0.false c.lower_sums.ensures
