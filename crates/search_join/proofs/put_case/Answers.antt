-- Two words are set: the case and its source.
use mathlib.Core.Path.{refl}
use Prim.Native.Nat.{◌+◌}
use native.Mathlib.Omega.{arith}
use Rattle.search_join.specs.Parts.{part-put}
use Rattle.search_join.specs.Sums.{WayTo}
use Rattle.search_join.specs.Laws.{found_or}
use Rattle.search_join.specs.declared.TheConstants.{NO_WAY}
use Rattle.search_join.proofs.put_case.Goals as goal

pub returns : goal.returns
returns c =
    let case = c.args.case in
    let least = found_or (WayTo c.args.join c.args.store.now case) c.join_case.result NO_WAY refl refl c.join_case.ensures in
    part-put c.args.join.starts c.args.join.lanes c.args.join.i case.q0 case.q1 case.pose (c.case_at.result + case.pose) (c.pointer_at.result + case.pose) _ _ c.args.store.now
    c.requires.joining.table c.requires.pages (omega arith) (omega arith) (omega arith) (omega arith) (omega arith)
    (rw c.unwrap_or-best.ensures least)
