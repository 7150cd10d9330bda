-- The layers, then from each the costs of the states that come with it.
use native.Mathlib.Omega.{arith}
use Rattle.search_row.specs.Words.{deck_in}
use Rattle.search_dense_segment.specs.Laws.{opened-to}
use Rattle.search_dense_segment.proofs.open_to.Goals as goal

pub returns : goal.returns
returns c =
    opened-to (deck_in c.args.row.words.now c.args.row.sizes) c.args.row.sizes.reordering c.args.tall (omega arith) c.requires.room.over c.requires.room.all
    c.run_open.ensures c.put_states.ensures
