-- A pose whose flag is 0 lowers nothing.
use Prim.Native.Nat.{◌+◌, ◌*◌}
use native.Mathlib.Omega.{arith}
use lib.ListN.{get_or}
use Rattle.search_store.specs.Map.{flags_from, max_lanes}
use Rattle.search_lanes.specs.Laws.{lowered_to, lowered_ext, said-none, said-word}
use Rattle.search_row.specs.Laws.{back_low}
use Rattle.search_wide_end.proofs.least_pose.Goals as goal

pub returns-then-store-at-eq0 : goal.returns-then-store-at-eq0
returns-then-store-at-eq0 c =
    lowered_to c.args.lanes c.requires.least.low
    (λ l h. omega (
      arith,
      said-none (get_or c.args.store.now (c.args.at + flags_from + c.args.a) 0) (get_or c.args.store.now (c.args.at + c.args.a * max_lanes + l) 0) c.if-store-at-eq0.true,
    ))

pub relax-requires : goal.relax-requires
relax-requires c =
    let g = c.requires in
    record {
      word = g.least;
      row = record { room = omega (arith, g.room, g.pose, g.narrow); low = g.low };
      narrow = g.narrow;
      small = omega (arith, c.back.ensures, back_low c.args.row.now c.args.k c.args.a);
    }

pub returns : goal.returns
returns c =
    lowered_ext c.relax.ensures
    (λ l h. omega (
      arith,
      said-word (get_or c.args.store.now (c.args.at + flags_from + c.args.a) 0) (get_or c.args.store.now (c.args.at + c.args.a * max_lanes + l) 0) c.if-store-at-eq0.false,
      c.back.ensures,
    ))
