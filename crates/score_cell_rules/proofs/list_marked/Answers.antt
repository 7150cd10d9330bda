use Rattle.std.proofs.Common.{ℕ, suc, ◌+◌, ◌-◌, ◌++◌, ap, ◌∙◌, map, take, length, add-one, length-set, arith}
use Rattle.score_cell_rules.specs.Marks.{marked_in, taken_more}
use Rattle.score_cell_rules.specs.Lowest.{keep-more, keep-rest}
use Rattle.score_cell_rules.proofs.list_marked.Goals as goal
use Rattle.score_cell_rules.proofs.list_marked.Goals.{then-mark, else-mark}

pub loop-k-preserved : goal.loop-k-preserved
loop-k-preserved c =
    let m = c.args.marks.now in
    let i = c.loop-k.invariant in
    let n : ℕ = c.loop-k.n in
    let k : ℕ = c.loop-k.k in
    let left : ℕ = length m - k in
    let rest : ℕ = length m - (k + 1) in
    elim c.if-mark.branch [
      | then-mark w ↦
          let e = keep-more (marked_in m) k (k + 1) left rest (add-one k) (omega arith) w.if-mark.true in
          rw (w.list-is, w.n-is) (record {
            few = omega arith;
            long = simp length-set i.long;
            entries =
                i.entries
                ∙ ap (λ t. take n c.loop-k.list ++ map suc t) e
                ∙ taken_more c.loop-k.list n (n + 1) (k + 1) (suc k) _ (add-one n) (add-one k) (omega (arith, i.long));
          })
      | else-mark w ↦
          let e = keep-rest (marked_in m) k (k + 1) left rest (add-one k) (omega arith) w.if-mark.false in
          rw (w.list-is, w.n-is) (record { few = omega arith; long = i.long; entries = i.entries ∙ ap (λ t. take n c.loop-k.list ++ map suc t) e })
    ]
