use Rattle.theory_tables.specs.Steps.{first_open}
use Rattle.search_dense_first.specs.Begun.{begun_ext}
use Rattle.search_dense_first.specs.Starts.{first_layer}
use Rattle.search_dense_first.proofs.open.Goals as goal

pub returns : goal.returns
unfolding first_layer first_open
returns c = begun_ext c.put_layer.ensures (λ q a. rw c.start_marks.ensures)
