-- The lanes, NONE at first, are lowered to every state.
use mathlib.Core.Path.{refl, sym, ◌∙◌}
use native.Mathlib.Omega.{arith}
use Rattle.search_buckets.specs.Ends.{ends-gathered}
use Rattle.search_lanes.specs.Store.{layer_in}
use Rattle.search_lanes.specs.Laws.{lowered_low, none-at, none-low}
use Rattle.search_row.specs.Words.{deck_in}
use Rattle.search_wide_end.proofs.put_ends.Goals as goal

pub least_states-requires : goal.least_states-requires
least_states-requires c =
    record { given = c.requires.given; least = record { long = refl; low = none-low } }

pub put_lanes-requires : goal.put_lanes-requires
put_lanes-requires c =
    let w = c.least_states.ensures in
    record { low = c.requires.given.low; room = c.requires.room; least = record { long = w.long; low = lowered_low w none-low }; narrow = c.requires.given.narrow }

pub returns : goal.returns
returns c =
    let w = c.least_states.ensures in
    let g = c.requires.given in
    let v = c.put_lanes.ensures in
    record {
      long = v.long;
      kept = v.kept;
      words = λ l h.
          v.words l h
          ∙ sym (ends-gathered (deck_in c.args.row.words.now c.args.row.sizes) c.args.row.sizes.reordering (layer_in c.args.store.now c.args.at l) g.grounded.all
          (omega (arith, w.done l h, none-at l (omega (arith, g.narrow)))));
      low = v.low;
    }
