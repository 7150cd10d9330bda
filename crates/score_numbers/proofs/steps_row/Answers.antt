-- The order of the row is the definition's, and its entries are cells of the job.
use Rattle.std.proofs.Common.{ℕ, length, length-take, length-drop, ap, ◌∙◌, arith}
use Rattle.definition.specs.Lists.{sum_next}
use Rattle.definition.specs.Cost.{touching, filled, steps_in, steps_at}
use Rattle.job.specs.Value.{job_of, placement_of}
use Rattle.score_order.specs.Words.{order_in}
use Rattle.score_order.specs.Below.{below_at, below-order}
use Rattle.score_order.specs.Arrays.{zeros_room, tail-slice}
use Rattle.score_words.specs.Rows.{flat-order}
use Rattle.score_numbers.proofs.steps_row.Goals as goal

pub order_row-at-requires : goal.order_row-at-requires
order_row-at-requires c = record { few = c.requires.placed.flat.few; room = zeros_room }

pub steps_in-requires : goal.steps_in-requires
steps_in-requires c =
    let t = c.order_row-at.ensures in
    let p = c.requires.placed in
    let s = c.args.stands.now in
    record {
      row = c.requires.row;
      few = p.ready.accepted.few;
      each = p.ready.each;
      flat = p.flat;
      count = p.count;
      most = simp (length-take, length-drop) (omega (arith, t.long));
      cells = rw (tail-slice t) (λ i h. let l = below_at (length s) (order_in s c.args.row) i (below-order s c.args.row) h in omega (arith, l, p.count));
    }

pub returns : goal.returns
unfolding steps_in
returns c =
    let f : (ℕ → ℕ) → ℕ → ℕ → ℕ = λ by. steps_at by (job_of c.args.job) (placement_of c.args.placement) c.args.row in
    let e = tail-slice c.order_row-at.ensures ∙ flat-order c.requires.placed.flat c.args.row in
    let r = c.steps_in.ensures in
    record { touching = r.touching ∙ ap (sum_next (f touching)) e; filled = r.filled ∙ ap (sum_next (f filled)) e; most = r.most }
