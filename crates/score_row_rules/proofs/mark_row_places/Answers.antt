-- The ranks are the places in the row's cells, which end their array.
use Rattle.std.proofs.Common.{rules, tests, arith, length}
use Rattle.score_order.specs.Arrays.{zeros_room, tail-slice}
use Rattle.score_order.specs.Words.{order_in, row_in_file}
use Rattle.score_cell_rules.specs.Marks.{tried-added}
use Rattle.score_row_rules.specs.Tests.{out_in}
use Rattle.score_row_rules.specs.Out.{out-placed, cells-low}
use Rattle.score_row_rules.proofs.mark_row_places.Goals as goal

pub row_cells-first-requires : goal.row_cells-first-requires
row_cells-first-requires c = record { few = c.requires.few; room = zeros_room }

pub places_of-place-requires : goal.places_of-place-requires
places_of-place-requires c =
    let o = c.requires.ordered in
    record { few = o.few; low = cells-low (length c.args.stands.now) c.args.order.now c.requires.few o.cells }

pub returns : goal.returns
returns c =
    let s = c.args.stands.now in
    let o = order_in s c.args.row in
    let f = row_in_file s c.args.row in
    let p = rw c.requires.ordered.same at c.places_of-place.ensures in
    let u = c.row_cells-first.ensures in
    let q = rw (tail-slice u) at c.places_of-rank.ensures in
    tried-added (out_in s c.args.row c.args.limit o f) c.mark_each.ensures
    (λ k b h t. out-placed s c.args.row c.args.limit o f _ _ k (omega arith) p q b (search (rules, tests)))
