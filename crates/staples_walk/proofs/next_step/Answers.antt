-- Where no number of row 0's next cell leads on, one of row 1's does.
use Prim.Native.Nat.{◌+◌, ◌*◌}
use mathlib.Core.Path.{◌≡◌}
use native.Mathlib.Omega.{arith}
use lib.ListN.{get_or}
use Rattle.std.specs.Prelude.{Some}
use Rattle.staples_table.specs.Blocks.{block_at}
use Rattle.staples_walk.specs.Steps.{fewest_here}
use Rattle.staples_walk.specs.Taken.{taken₀, some-lead, taken₁}
use Rattle.staples_walk.proofs.next_step.Goals as goal
use Rattle.staples_walk.proofs.next_step.Goals.{After-last_of-last1}

-- what the table says of here
word : (c : After-last_of-last1)
    → (get_or c.args.store.now (block_at c.args.here.placed0 c.args.here.placed1 + c.args.here.number0 * 15 + c.args.here.number1) 0
    ≡ fewest_here c.args.row0.now c.args.row1.now c.args.counts c.args.here)
word c =
    let g = c.requires.here in
    let h = c.args.here in
    c.requires.table h.placed0 (omega arith) g.placed₀ h.placed1 (omega arith) g.placed₁ h.number0 h.number1
    g.small₀ g.small₁ g.stands₀ g.stands₁

pub returns-in-Some : goal.returns-in-Some
returns-in-Some c =
    let a = c.args in
    let g = c.requires in
    let o = rw (c.last_of-last0.ensures, c.last_of-last1.ensures, word (goal.at-returns-in-Some c).After-last_of-last1) at c.in-Some.ensures in
    taken₀ a.row0.now a.row1.now a.counts a.here a.store.now g.rows g.table g.here g.some g.way o.0 c.in-Some.number o.1

pub unwrap-requires : goal.unwrap-requires
unwrap-requires c =
    let a = c.args in
    let g = c.requires in
    let w = word (goal.at-unwrap-requires c).After-last_of-last1 in
    let none = rw (c.last_of-last0.ensures, c.last_of-last1.ensures, w) at c.in-None.ensures in
    some-lead a.row0.now a.row1.now a.counts a.here a.store.now g.rows g.table g.here g.some g.way none c.lead_of-in-None.result
    (rw (c.last_of-last0.ensures, c.last_of-last1.ensures, w) at c.lead_of-in-None.ensures)

pub returns-in-None : goal.returns-in-None
returns-in-None c =
    let a = c.args in
    let g = c.requires in
    let w = word (goal.at-returns-in-None c).After-last_of-last1 in
    let found : c.lead_of-in-None.result ≡ Some c.unwrap.result = c.unwrap.ensures in
    let o = rw (c.last_of-last0.ensures, c.last_of-last1.ensures, w, found) at c.lead_of-in-None.ensures in
    taken₁ a.row0.now a.row1.now a.counts a.here a.store.now g.rows g.table g.here g.some g.way o.0 c.unwrap.result o.1
