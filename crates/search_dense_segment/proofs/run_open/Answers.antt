-- The first layer, then those after it.
use Rattle.search_row.specs.Words.{deck_in}
use Rattle.search_dense_segment.specs.Laws.{open_kept}
use Rattle.search_dense_segment.proofs.run_open.Goals as goal

pub returns : goal.returns
returns c =
    open_kept (deck_in c.args.row.words.now c.args.row.sizes) c.args.row.sizes.reordering c.kept_at.ensures c.requires.grounded.all
    c.open.ensures c.segment_kept.ensures
