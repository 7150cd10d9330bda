-- The cases of the definition, by the word's place; no word is large.
use Rattle.std.proofs.Common.{◌-◌, sym, ◌∙◌, arith}
use Rattle.search_row.specs.Words.{left_p}
use Rattle.search_row_fill.specs.Cell.{shape_at, height-at}
use Rattle.search_row_fill.specs.Values.{one, shape-low, height-low}
use Rattle.search_row_fill.proofs.Lone.cell_word.Goals as goal

pub returns-in-64-to-67 : goal.returns-in-64-to-67
returns-in-64-to-67 c =
    let j = one c.args.self.header c.args.self.cell in
    record {
      same = c.shape_word.ensures ∙ sym (shape_at j c.args.side 0 c.args.number c.args.i (omega arith) (omega arith));
      low = omega (arith, c.shape_word.ensures, shape-low c.args.self.header c.args.self.cell c.requires.ranged c.args.i);
    }

pub returns-in-68-to-83 : goal.returns-in-68-to-83
returns-in-68-to-83 c =
    let j = one c.args.self.header c.args.self.cell in
    let u = c.args.i - left_p in
    record {
      same = c.height_word.ensures ∙ sym (height-at j c.args.side 0 c.args.number c.args.i u (omega arith) (omega arith));
      low = omega (arith, c.height_word.ensures, height-low c.args.self.header c.args.self.cell c.requires.ranged c.args.side u);
    }
