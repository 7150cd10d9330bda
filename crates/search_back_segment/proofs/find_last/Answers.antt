use mathlib.Core.Path.{◌≡◌}
use native.Mathlib.Omega.{arith}
use Rattle.search_row.specs.Words.{deck_in}
use Rattle.search_dense_layer.specs.Kept.{kept_in}
use Rattle.search_back_segment.specs.Lasts.{end-found}
use Rattle.search_back_segment.proofs.find_last.Goals as goal

pub returns : goal.returns
returns c =
    let l = c.loop-q in
    let e : l.q ≡ c.args.row.sizes.states = omega arith in
    end-found (deck_in c.args.row.words.now c.args.row.sizes) c.args.row.sizes.reordering (kept_in c.args.store.now c.args.row.sizes.cells) l.q l.best l.last
    (omega (arith, c.requires.grounded.all)) l.invariant
