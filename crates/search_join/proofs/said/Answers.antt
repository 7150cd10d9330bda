-- A row with the flag 0 says B, another one its words.
use mathlib.Core.Path.{sym}
use Rattle.search_lanes.specs.Laws.{said-none, said-word}
use Rattle.search_join.proofs.said.Goals as goal

pub returns-then-store-at-eq0 : goal.returns-then-store-at-eq0
returns-then-store-at-eq0 c =
    sym (said-none _ _ c.if-store-at-eq0.true)

pub returns : goal.returns
returns c =
    sym (said-word _ _ c.if-store-at-eq0.false)
