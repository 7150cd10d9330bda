-- The costs of stage 0; else the first layer, then the segment on from it.
use Prim.Native.Nat.{◌+◌, ◌-◌}
use mathlib.Core.Path.{◌≡◌}
use Rattle.search_store.specs.Map.{max_lanes}
use Rattle.search_lanes.specs.Laws.{zeros_low}
use Rattle.search_row.specs.Words.{deck_in, pos_in}
use Rattle.search_stage.specs.Rows.{row_open, row-after, start-place, start-state}
use native.Mathlib.Omega.{arith}
use Rattle.search_stage.proofs.row.row_cost.Goals as goal

pub returns-then-i-eq0 : goal.returns-then-i-eq0
returns-then-i-eq0 c =
    record {
      costed = row_open (deck_in c.args.row.words.now c.args.row.sizes) c.args.row.sizes.reordering c.args.row.sizes.talls (pos_in c.args.row.words.now) c.args.row.sizes.states c.args.s
          c.args.lanes c.if-i-eq0.true c.open_cost.ensures;
      lent = c.requires.lent;
    }

pub placed_with-placed-requires : goal.placed_with-placed-requires
placed_with-placed-requires c =
    let s = start-state c.args.row.sizes.talls c.args.i c.args.row.sizes.states c.args.s c.requires.state c.if-i-eq0.false c.requires.stage in
    record {
      words = c.requires.given.grounded.coded;
      state = omega (arith, c.requires.given.grounded.all);
      few = omega (
        arith,
        start-place c.args.i c.tall_at-p.result c.requires.given c.if-i-eq0.false c.requires.stage c.tall_at-p.ensures,
      );
    }

pub first_layer-requires : goal.first_layer-requires
first_layer-requires c =
    let g = c.requires.given.grounded in
    let s = start-state c.args.row.sizes.talls c.args.i c.args.row.sizes.states c.args.s c.requires.state c.if-i-eq0.false
    c.requires.stage in
    let p =
    start-place c.args.i c.tall_at-p.result c.requires.given c.if-i-eq0.false c.requires.stage
    c.tall_at-p.ensures in
    let r = c.requires.room in
    record {
      lent = c.requires.lent;
      given = record {
        grounded = g;
        low = r.low;
        narrow = c.requires.narrow;
        early = omega (arith, c.placed_with-placed.ensures, g.coded.reorder);
        room = omega (arith, r.over, r.room);
      };
      start = p;
      state = s;
    }

pub backs-requires : goal.backs-requires
backs-requires c =
    let g = c.requires.given.grounded in
    record {
      words = g.words;
      low = zeros_low max_lanes;
      room = omega (arith, g.few);
      cell = start-place c.args.i c.tall_at-p.result c.requires.given c.if-i-eq0.false c.requires.stage
          c.tall_at-p.ensures;
      few = g.few;
    }

pub returns : goal.returns
unfolding pos_in
returns c =
    record {
      costed = row-after (deck_in c.args.row.words.now c.args.row.sizes) c.args.row.sizes.reordering c.args.row.sizes.talls (pos_in c.args.row.words.now) c.args.i (c.args.i - 1) c.args.row.sizes.states
          c.args.s c.tall_at-p.result c.placed_with-placed.result c.backs.new.starts
          (omega (arith, c.if-i-eq0.false)) c.requires.stage
          c.requires.given.grounded.all
          c.tall_at-p.ensures c.placed_with-placed.ensures
          (λ l h. let z : 0 + l ≡ l = omega arith in rw z at (c.backs.ensures.words l h))
          c.first_layer.ensures.filled
          c.stage_end.ensures.costed;
      lent = c.stage_end.ensures.lent;
    }
