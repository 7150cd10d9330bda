-- A state that is no source has no pose that fits; one that is a source stands in the row.
use Prim.Native.Nat.{suc}
use mathlib.Core.Path.{◌≡◌, sym, ◌∙◌}
use native.Mathlib.Omega.{arith}
use Rattle.theory_tables.specs.Steps.{last_at}
use Rattle.search_row.specs.Words.{deck_in}
use Rattle.search_dense_layer.specs.Kept.{kept_in}
use Rattle.search_back_segment.specs.Sources.{poses-first, poses-none}
use Rattle.search_back_segment.proofs.state_pose.Goals as goal

pub returns-then-not-is_source : goal.returns-then-not-is_source
returns-then-not-is_source c =
    poses-none (deck_in c.args.row.words.now c.args.row.sizes) c.args.row.sizes.reordering (kept_in c.args.store.now c.args.i) c.args.i c.args.q c.args.a c.args.p c.args.want
    (sym c.is_source.ensures ∙ c.if-not-is_source.true) c.requires.target.below

pub returns : goal.returns
returns c =
    let m : c.last_at-m.result ≡ last_at c.args.row.sizes.reordering (suc c.args.i) c.args.q = omega (arith, c.last_at-m.ensures) in
    poses-first c.args.store.now c.args.row.words.now c.args.row.sizes.cells c.args.row.sizes.poses c.args.row.sizes.reordering c.args.i c.args.q c.args.a c.args.p c.args.want _
    (sym c.is_source.ensures ∙ c.if-not-is_source.false) (omega (arith, c.kept_at.ensures)) c.last_at-k.ensures m c.find_pose.ensures
