-- Both rows' ways, and the words that they come to.
use native.Mathlib.Omega.{arith}
use Prim.Native.Nat.{ℕ}
use lib.ListN.{length-replicate}
use Rattle.search_lanes.specs.Laws.{same_low}
use Rattle.staples_ways.specs.Laws.{last-start-low, last-end-low}
use Rattle.staples_table.specs.Blocked.{block-next}
use Rattle.staples_table.proofs.fill_next.Goals as goal

pub ways_ahead-first0-requires : goal.ways_ahead-first0-requires
ways_ahead-first0-requires c =
    let a = c.args in
    let g = c.requires.block in
    let r = g.rows in
    record {
      long = length-replicate {A = ℕ} 480 0;
      ways_low = same_low 480 0 (omega arith);
      words = r.first.words;
      low = g.low;
      placed = g.placed₀;
      cells = r.first.few;
      some = omega arith;
      few = r.first.near;
      start = rw c.last_of-last1.ensures (last-start-low a.row1.now a.counts.limit a.q r.second.words (omega arith));
      end = rw c.last_of-last1.ensures (last-end-low a.row1.now a.counts.limit a.q r.second.words (omega arith));
      inside = λ u v h i j. omega (arith, h, i, j, g.placed₁, r.few, r.first.near, g.room);
    }

pub ways_ahead-first1-requires : goal.ways_ahead-first1-requires
ways_ahead-first1-requires c =
    let a = c.args in
    let g = c.requires.block in
    let r = g.rows in
    record {
      long = length-replicate {A = ℕ} 480 0;
      ways_low = same_low 480 0 (omega arith);
      words = r.second.words;
      low = g.low;
      placed = g.placed₁;
      cells = r.second.few;
      some = omega arith;
      few = r.second.near;
      start = rw c.last_of-last0.ensures (last-start-low a.row0.now a.counts.limit a.p r.first.words (omega arith));
      end = rw c.last_of-last0.ensures (last-end-low a.row0.now a.counts.limit a.p r.first.words (omega arith));
      inside = λ u v h i j. omega (arith, h, i, j, g.placed₀, r.few, r.second.near, g.room);
    }

pub returns : goal.returns
returns c =
    let a = c.args in
    let g = c.requires.block in
    block-next a.row0.now a.row1.now a.counts a.p a.q a.store.now g.rows g.next₀ g.next₁ c.requires.some g.placed₀ g.placed₁
    (rw c.last_of-last1.ensures at c.ways_ahead-first0.ensures)
    (rw c.last_of-last0.ensures at c.ways_ahead-first1.ensures)
    (rw (c.last_of-last0.ensures, c.last_of-last1.ensures) at c.put_block.ensures)
