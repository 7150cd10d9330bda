-- `results::Fields::zeros` meets its contract: so many of the zeros count.
use mathlib.Core.Path.{refl}
use Rattle.results.specs.Fields.{max_fields, list_of, zeros_listed}
use Rattle.results.proofs.Fields.zeros.Goals as goal

pub returns : goal.returns
unfolding list_of
returns c = record { list = zeros_listed c.args.count max_fields c.requires; count = refl }
