-- The row's start, or the tall cell before: the first layer, kept.
use Prim.Native.Nat.{ℕ, ◌+◌, ◌-◌}
use mathlib.Core.Path.{◌≡◌, sym, subst, ◌∙◌}
use native.Mathlib.Omega.{arith}
use Rattle.search_row.specs.Words.{deck_in, pos_in}
use Rattle.search_back_stage.specs.Rows.{FirstKept}
use Rattle.search_back_stage.proofs.Laws.{start-some, start-one, start-count, started_open, started_after}
use Rattle.search_back_stage.proofs.put_first.Goals as goal

pub returns-then-stage-eq0 : goal.returns-then-stage-eq0
returns-then-stage-eq0 c =
    let D = deck_in c.args.row.words.now c.args.row.sizes in
    let pos = pos_in c.args.row.words.now in
    let z = c.args.row.sizes in
    let one = start-one z.reordering pos c.args.stage c.args.s c.if-stage-eq0.true ∙ sym c.requires.counted in
    subst (λ (k : ℕ). FirstKept D z.reordering pos c.args.stage c.args.s c.args.l k c.args.store.now c.open.new.store) one
    (started_open D z.reordering pos c.if-stage-eq0.true c.requires.given.start.given.grounded.all (omega (arith, c.kept_at-to.ensures)) c.open.ensures)

pub overflow_sub-i : goal.overflow_sub-i
overflow_sub-i c =
    omega (arith, c.requires.counted, start-some c.args.row.sizes.reordering (pos_in c.args.row.words.now) c.args.stage c.args.s)

pub returns : goal.returns
unfolding pos_in
returns c =
    let D = deck_in c.args.row.words.now c.args.row.sizes in
    let pos = pos_in c.args.row.words.now in
    let z = c.args.row.sizes in
    let count = c.requires.counted ∙ start-count z.reordering pos c.args.stage (c.args.stage - 1) c.args.s (omega arith) in
    let cells : c.args.cells - 1 + 1 ≡ c.args.cells = omega arith in
    subst (λ (k : ℕ). FirstKept D z.reordering pos c.args.stage c.args.s c.args.l k c.args.store.now c.after.new.store) cells
    (started_after D z.reordering pos (c.args.stage - 1) (omega arith) c.tall_at-p.ensures (omega (arith, count, c.tall_at-p.ensures)) c.requires.given.start.given.grounded.all
    (omega (arith, c.kept_at-to.ensures)) (omega (arith, c.requires.given.few, c.requires.counted)) c.after.ensures)
