-- The words that the rows need are cleared, and lent again.
use Rattle.search.specs.Words.{few-pages}
use Rattle.search.proofs.search.Goals as goal
use Rattle.search.proofs.search.Goals.{After-store_words-words}

pub store_words-words-requires : goal.store_words-words-requires
store_words-words-requires c = few-pages c.requires.rows.first.given
