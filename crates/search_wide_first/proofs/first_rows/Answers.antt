-- Each lane of the table, once it is reset, has its start, and each pose finds there what it pays after it.
use mathlib.Core.Path.{sym, ◌∙◌}
use native.Mathlib.Omega.{arith}
use Rattle.search_buckets.specs.Rows.{rows_of}
use Rattle.search_buckets.specs.Sources.{buckets_either}
use Rattle.search_wide_buckets.specs.Table.{FiveOrNine, TableReady, Gathered}
use Rattle.search_wide_buckets.specs.TableLaws.{ready}
use Rattle.search_wide_buckets.specs.SpreadLaws.{five-least, nine-most}
use Rattle.search_wide_first.specs.Starts.{start_in, starts_all, starts_low, starts_last, after-found}
use Rattle.search_wide_first.proofs.first_rows.Goals as goal
use Rattle.search_wide_first.proofs.first_rows.Goals.{After-buckets_of-buckets, After-run_up}

-- how many buckets the cell needs, and that the last four are those of gaps 2 and 3
needed : (c : After-buckets_of-buckets) → FiveOrNine c.buckets_of-buckets.result
needed c = rw c.buckets_of-buckets.ensures (buckets_either c.args.row.now c.args.k)

-- the starts in the rows that count
starts : (c : After-run_up) → (Gathered (start_in c.args.row.now c.args.p c.args.k) (rows_of c.args.poses) c.buckets_of-buckets.result c.args.lanes c.reset.new.table
    c.from_starts.new.table)
starts c = rw c.rows_of.ensures at (starts_all c.from_starts.ensures)

-- the table once bucket 0 ran up
table : (c : After-run_up) → FiveOrNine c.buckets_of-buckets.result
    → TableReady (start_in c.args.row.now c.args.p c.args.k) c.args.poses c.buckets_of-buckets.result c.args.lanes c.run_up.new.table
table c n =
    ready c.requires.few (five-least n) (nine-most n) (λ l v t. starts_low c.args.p c.args.k l v t c.requires.words)
    (λ l v t h. rw c.buckets_of-buckets.ensures (starts_last c.args.row.now c.args.p c.args.k l v t h))
    c.reset.ensures (starts c) c.run_up.ensures

pub reset-requires : goal.reset-requires
reset-requires c =
    record {
      table_for = record { lent = c.requires.lent; few = c.requires.few; narrow = c.requires.narrow };
      most = nine-most (needed (goal.at-reset-requires c).After-buckets_of-buckets);
    }

pub from_starts-requires : goal.from_starts-requires
from_starts-requires c =
    let w = c.reset.ensures in
    record {
      starting = record {
        lent = record { long = w.long; low = w.low };
        words = c.requires.words;
        start = c.requires.start;
        cell = c.requires.cell;
        few = omega (arith, c.rows_of.ensures);
        needed = needed (goal.at-from_starts-requires c).After-buckets_of-buckets;
      };
      narrow = c.requires.narrow;
    }

pub put_rows-requires : goal.put_rows-requires
put_rows-requires c =
    let t = table (goal.at-put_rows-requires c).After-run_up (needed (goal.at-put_rows-requires c).After-buckets_of-buckets) in
    let h = needed (goal.at-put_rows-requires c).After-buckets_of-buckets in
    record {
      rows = record {
        words = c.requires.words;
        low = c.requires.low;
        table_low = t.low;
        table_long = t.long;
        narrow = c.requires.narrow;
        cell = c.requires.cell;
        least = five-least h;
        most = nine-most h;
      };
      room = c.requires.room;
      few = c.requires.few;
    }

pub returns : goal.returns
returns c =
    let t = table (goal.at-returns c).After-run_up (needed (goal.at-returns c).After-buckets_of-buckets) in
    let w = c.put_rows.ensures in
    record {
      written = record {
        frame = w.frame;
        words = λ b l x y. w.words b l x y ∙ sym (after-found c.args.row.now c.args.p c.args.k b l t x y);
        low = w.low;
      };
      lent = record { long = t.long; low = t.low };
    }
