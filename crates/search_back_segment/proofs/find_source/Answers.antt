use native.Mathlib.Omega.{arith}
use Rattle.search_row.specs.Words.{deck_in}
use Rattle.search_dense_layer.specs.Kept.{kept_in}
use Rattle.search_back_segment.specs.Sources.{reached_missed, state-fits}
use Rattle.search_back_segment.proofs.find_source.Goals as goal

pub returns-in-Some : goal.returns-in-Some
returns-in-Some c =
    let found = c.in-Some.ensures in
    state-fits (deck_in c.args.row.words.now c.args.row.sizes) c.args.row.sizes.reordering (kept_in c.args.store.now c.args.i) c.args.i c.args.q c.args.a c.args.want c.loop-p.p
    c.in-Some.b
    (omega (arith, c.requires.target.back.grounded.all)) found.0 c.requires.target.below found.1

pub unreachable-requires : goal.unreachable-requires
unreachable-requires c =
    reached_missed (deck_in c.args.row.words.now c.args.row.sizes) c.args.row.sizes.reordering (kept_in c.args.store.now c.args.i) c.args.i c.args.q c.args.a c.args.want
    c.requires.target.below
    (λ j h. c.loop-p.invariant j (omega (arith, c.requires.target.back.grounded.all)))
    c.requires.cost
