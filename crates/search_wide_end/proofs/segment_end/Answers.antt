-- The three cases of the cost.
use mathlib.Core.Path.{refl, ◌∙◌}
use native.Mathlib.Omega.{arith}
use lib.ListN.{get_or}
use Rattle.search_buckets.specs.Ends.{cost-done, cost-past}
use Rattle.theory_tables.specs.Steps.{B}
use Rattle.search_lanes.specs.Lanes.{always}
use Rattle.search_lanes.specs.Laws.{first-closed}
use Rattle.search_row.specs.Words.{deck_in}
use Rattle.search_wide_segment.specs.Laws.{outside-join, outside-layers}
use Rattle.search_wide_end.specs.Laws.{ran_cost, row-outside, end-words}
use Rattle.search_wide_end.proofs.segment_end.Goals as goal

pub returns-then-i-row : goal.returns-then-i-row
returns-then-i-row c =
    let g = c.requires.segment in
    end-words {g = always B} g.lent (first-closed (omega (arith, g.room.room)) g.given.low (λ l h. refl))
    (λ f l. cost-past (deck_in c.args.row.words.now c.args.row.sizes) c.args.row.sizes.reordering f c.args.first.cells (get_or c.args.starts.now l 0) (omega arith))

pub returns-then-i-row-2 : goal.returns-then-i-row-2
returns-then-i-row-2 c =
    let s = c.requires.pays in
    end-words c.requires.segment.lent c.put_lanes.ensures
    (λ f l. omega
    (arith, cost-done (deck_in c.args.row.words.now c.args.row.sizes) c.args.row.sizes.reordering f c.args.first.cells (get_or c.args.starts.now l 0) (omega arith), s.low.word l))

pub returns : goal.returns
returns c =
    let g = c.requires.segment in
    let v = c.run_on-at.ensures in
    let w = c.put_ends.ensures in
    record {
      outside = outside-join (outside-layers g.room.over v.frame (omega arith))
          (row-outside w);
      low = w.low;
      lent = v.lent;
      right = λ l h. w.words l h ∙ ran_cost l (get_or c.args.starts.now l 0) (omega arith) v.running h;
    }
