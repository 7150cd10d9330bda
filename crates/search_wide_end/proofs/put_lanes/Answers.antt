-- The words, then the flag.
use mathlib.Core.Path.{refl}
use native.Mathlib.Omega.{arith}
use Rattle.search_lanes.specs.Laws.{first_flagged}
use Rattle.search_wide_end.proofs.put_lanes.Goals as goal

pub returns : goal.returns
returns c =
    first_flagged 1 c.requires.narrow (omega (arith, c.requires.room.room)) c.put.ensures (omega arith) (λ z. absurd (omega arith))
    (λ l h. refl)
