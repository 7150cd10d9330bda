-- The word, then its flag, which is 0 only if the word is NONE.
use Rattle.std.proofs.Common.{◌+◌, ◌*◌, refl, arith}
use Rattle.search_store.specs.Map.{max_lanes}
use Rattle.search_lanes.specs.Lanes.{always}
use Rattle.search_lanes.specs.Laws.{written_one, row_flagged}
use Rattle.search_lanes.proofs.put_one.Goals as goal

pub returns : goal.returns
returns c =
    let g = c.requires in
    row_flagged c.args.a _ (omega arith) g.pose g.room
    (written_one (always c.args.x) (c.args.at + c.args.a * max_lanes) c.args.x g.low (omega arith) refl g.word)
    (omega arith)
    (λ z l h. omega (arith, c.flag_of.ensures.none z))
    (λ l h. refl)
