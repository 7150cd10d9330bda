-- A state that cannot come first has no way to it.
use Prim.Native.Nat.{ℕ}
use mathlib.Core.Path.{sym, ap, ◌∙◌}
use Rattle.search_lanes.specs.Laws.{written_ext}
use Rattle.search_dense_first.specs.Starts.{first_pose, first-there, first-away}
use Rattle.search_dense_first.proofs.put_state.Goals as goal

pub returns-then-not-starts : goal.returns-then-not-starts
returns-then-not-starts c =
    written_ext c.fill.ensures
    (λ a h. first-away c.args.row.words.now c.args.row.sizes c.args.start c.args.q a (sym c.starts.ensures ∙ c.if-not-starts.true))

pub returns : goal.returns
returns c =
    written_ext c.put_poses.ensures
    (λ a h.
    first-there c.args.row.words.now c.args.row.sizes c.args.start c.args.q a (sym c.starts.ensures ∙ c.if-not-starts.false)
    ∙ ap (λ (k : ℕ). first_pose c.args.row.words.now c.args.start.tall k a) (sym c.last_at-k.ensures))
