-- Digit j by a shift and a mask.
use Rattle.std.proofs.Common.{sym, ◌∙◌}
use Rattle.std.proofs.lemmas.Nat.{and_mask}
use Rattle.theory_row.specs.Marks.{bit_shr}
use Rattle.search_states.proofs.digit.Goals as goal

pub returns : goal.returns
returns c = and_mask _ 1 ∙ sym (bit_shr _ _)
