-- The P and the N pair, each read at its edge.
use Rattle.std.proofs.Common.{◌≡◌, ℕ, ◌+◌, Bool, true, false, cond, not, refl, ap₂, ◌∙◌, arith}
use lib.Dec.{eqb}
use mir.Val.{bool_byte}
use Rattle.job.specs.Value.{cell_of, pose_of}
use Rattle.score_steps.specs.Heights.{unlike, unlike-small}
use Rattle.score_steps.specs.Steps.{differing-two}
use Rattle.score_steps.proofs.differing_heights.Goals as goal

-- what the code counts of two heights
counted : (x y r : ℕ) → r ≡ bool_byte (not (eqb x y)) → r ≡ unlike x y
counted x y r e = e ∙ go (eqb x y)
  where
    go : (t : Bool) → bool_byte (not t) ≡ cond t 0 1
    go true = refl
    go false = refl

pub returns : goal.returns
unfolding cell_of
returns c =
    let high = counted c.height_of.result c.height_of-2.result c.from.result c.from.ensures in
    let low = counted c.height_of-3.result c.height_of-4.result c.from-2.result c.from-2.ensures in
    let l = c.args.left in
    let r = c.args.right in
    record {
      same = ap₂ ◌+◌ (high ∙ ap₂ unlike c.height_of.ensures c.height_of-2.ensures) (low ∙ ap₂ unlike c.height_of-3.ensures c.height_of-4.ensures)
          ∙ differing-two (cell_of l.cell) (pose_of l.pose) (cell_of r.cell) (pose_of r.pose) c.args.row c.edge_of-x.result c.edge_of-y.result
          c.edge_of-x.ensures.same c.edge_of-y.ensures.same;
      most = omega (arith, high, low, unlike-small c.height_of.result c.height_of-2.result, unlike-small c.height_of-3.result c.height_of-4.result);
    }
