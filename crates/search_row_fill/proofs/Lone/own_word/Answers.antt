use Rattle.std.proofs.Common.{sym, ◌∙◌}
use Rattle.search_row_fill.specs.Values.{offered-right}
use Rattle.search_row_fill.proofs.Lone.own_word.Goals as goal

pub pose_cost-requires : goal.pose_cost-requires
pose_cost-requires c =
    let o = sym c.is_offered.ensures ∙ c.if-not-is_offered.false in
    record {
      ranged = c.requires.ranged;
      few = c.requires.few;
      right = offered-right c.args.self.header c.args.self.cell c.args.side c.args.a o;
    }
