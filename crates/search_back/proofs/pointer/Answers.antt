-- The word's place is that of the table.
use Prim.Native.Nat.{ℕ}
use mathlib.Core.Path.{ap, ◌∙◌}
use native.Mathlib.Omega.{arith}
use lib.ListN.{get_or}
use Rattle.search_join.specs.Tables.{pointers_in}
use Rattle.search_back.proofs.pointer.Goals as goal

pub returns : goal.returns
unfolding pointers_in
returns c =
    c.word.ensures ∙ ap (λ (k : ℕ). get_or c.args.store.now k 0) (omega arith)
