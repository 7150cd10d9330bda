-- A row whose flag is 0 has its flag copied.
use Rattle.std.proofs.Common.{arith}
use Rattle.search_lanes.specs.Laws.{said-none, row-closed}
use Rattle.search_lanes.proofs.copy_row.Goals as goal

pub returns-then-flag-eq0 : goal.returns-then-flag-eq0
returns-then-flag-eq0 c =
    row-closed c.args.a (omega arith) c.requires.state.room c.requires.state.low (λ l h. said-none _ _ c.if-flag-eq0.true)
