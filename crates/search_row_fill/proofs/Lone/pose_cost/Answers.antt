-- The three terms of a cell's own cost, each a small product.
use Rattle.std.proofs.Common.{◌+◌, ◌*◌, sym, ap, ap₂, ◌∙◌, arith}
use Rattle.job.specs.Value.{offer_in}
use Rattle.search_row_fill.specs.Values.{cost-same, limit-low}
use Rattle.search_row_fill.proofs.Lone.pose_cost.Goals as goal

pub times-shift-requires : goal.times-shift-requires
times-shift-requires c =
    let low = limit-low c.args.self.header c.args.self.cell (offer_in c.offer_of-offer.result) c.offer_of-offer.ensures in
    let e = ap (λ o. o.limit) c.offer_of-offer.ensures in
    record { low = c.requires.ranged.shift; few = omega (arith, c.abs_diff.ensures) }

pub returns : goal.returns
returns c =
    let o = c.offer_of-offer in
    let e = c.times-shift.ensures.same ∙ ap (λ x. c.args.self.header.shift * x) c.abs_diff.ensures in
    record {
      same = ap₂ ◌+◌ (ap₂ ◌+◌ e c.times-mirror.ensures.same) c.times-swap.ensures.same
          ∙ sym (cost-same c.args.self.header c.args.self.cell c.args.a (offer_in o.result) o.ensures);
      low = omega arith;
    }
