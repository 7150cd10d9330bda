use Prim.Native.Nat.{◌+◌}
use mathlib.Core.Path.{◌≡◌, ap, ◌∙◌}
use mathlib.Core.List.{List, ◌∷◌}
use native.Mathlib.Omega.{arith}
use borrow.Author.Rules.{rules}
use lib.ListN.{length, take, set, get_or, length-set}
use lib.IntN.{ℤ, pos}
use mir.Syntax.{w32}
use mir.Val.{SFits, to_z}
use mir.Facts.{to_z-of_z, to_z_pos}
use Rattle.definition.specs.Outcome.{over}
use Rattle.results.specs.Fields.{list_of}
use Rattle.definition_laws.specs.Over.{none_over, one-over, two-over, two-again, after_more, after_full}
use Rattle.results.proofs.put_results.Goals as goal
use Rattle.results.proofs.put_results.Goals.{At-loop-i}

-- what is laid so far, over the array as it was lent
laid : (c : At-loop-i)
    → c.loop-i.results
    ≡ over (pos c.args.number ∷ pos c.args.line ∷ take c.loop-i.i c.args.fields.values) c.args.results.now
laid c =
    c.loop-i.invariant.1
    ∙ rw (to_z_pos w32 c.requires.number, to_z_pos w32 c.requires.line)
    (two-again (pos c.args.number) (pos c.args.line) (take c.loop-i.i c.args.fields.values) c.args.results.now (omega arith))

pub returns-then-len-eq0 : goal.returns-then-len-eq0
returns-then-len-eq0 c = none_over _ _ _ _ c.if-len-eq0.true

pub returns-then-len-eq1 : goal.returns-then-len-eq1
returns-then-len-eq1 c = rw (to_z_pos w32 c.requires.number) (one-over _ _ _ _ c.if-len-eq1.true)

pub loop-i-init : goal.loop-i-init
loop-i-init c =
    (search rules, rw (to_z_pos w32 c.requires.number, to_z_pos w32 c.requires.line) (two-over _ _ _ (omega arith)))

pub returns-then-len-i : goal.returns-then-len-i
unfolding list_of
returns-then-len-i c =
    laid (goal.at-returns-then-len-i c).At-loop-i
    ∙ after_full _ _ _ _ _ c.args.fields.count (omega arith) (omega arith)

pub loop-i-preserved : goal.loop-i-preserved
loop-i-preserved c =
    let s = c.loop-i.invariant in
    let v : ℤ = get_or c.args.fields.values c.loop-i.i (pos 0) in
    let fits : SFits w32 v = search rules in
    let l : List ℤ = set (set c.args.results.now 0 (to_z w32 c.args.number)) 1 (to_z w32 c.args.line) in
    let n : length l ≡ length c.args.results.now = simp length-set in (
      s.0,
      ap (λ (z : ℤ). set c.loop-i.results (c.loop-i.i + 2) z) (to_z-of_z fits)
          ∙ ap (λ (m : List ℤ). set m (c.loop-i.i + 2) v) s.1
          ∙ after_more _ _ c.args.fields.values l c.loop-i.i (pos 0) (omega arith) (omega arith),
    )

pub returns : goal.returns
unfolding list_of
returns c = let e : c.loop-i.i ≡ c.args.fields.count = omega arith in rw e at (laid (goal.at-returns c).At-loop-i)
