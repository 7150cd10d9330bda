-- Four draws in line order; the first says which largest site the second is added to.
use Prim.Native.Nat.{ℕ, ◌+◌, ◌≤◌}
use mathlib.Core.Path.{◌≡◌, ap, ap₂, ◌∙◌}
use mathlib.Core.Bool.{cond}
use native.Mathlib.Omega.{arith}
use lib.Dec.{ltb}
use Rattle.definition.specs.Job.{max_tall}
use Rattle.definition.specs.Draws.{Generator, ◌to◌, next, drawn}
use Rattle.definition.specs.Load as paper
use Rattle.definition.specs.Load.{row_drawn}
use Rattle.load_laws.specs.Draws.{drawn-high}
use Rattle.load_draws.specs.Generators.{generator_of}
use Rattle.load_write.specs.Openings.{tally-low, largest-stands}
use Rattle.load_write.proofs.draw_opening.Goals as goal
use Rattle.load_write.proofs.draw_opening.Goals.{After-field}

-- the given site is at most the largest so far and 12
given-low : (c : After-field) → c.largest_in.result + c.field.result ≤ 9999
given-low c =
    omega (arith, tally-low c.field-row.result c.requires, drawn-high (0 to 12) (generator_of c.next-g2.result) (omega arith))

pub overflow_add-given : goal.overflow_add-given
overflow_add-given c = omega (arith, given-low (goal.at-overflow_add-given c).After-field)

pub returns : goal.returns
returns c =
    let row_low : c.field-row.result ≤ 2 =
    grind (arith, drawn-high (0 to c.last_row.result) (generator_of c.next-g1.result) (omega arith)) in
    record {
      row = row_low;
      given = given-low (goal.at-returns c).After-field;
      mirrorable = omega (arith, drawn-high (0 to 1) (generator_of c.next-g3.result) (omega arith));
      layouts = omega (arith, drawn-high (1 to 2) (generator_of c.next-generator.result) (omega arith));
      of = λ l st.
          let g1 = c.next-g1.ensures ∙ ap next st.generator in
          let g2 = c.next-g2.ensures ∙ ap next g1 in
          let g3 = c.next-g3.ensures ∙ ap next g2 in
          let g4 = c.next-generator.ensures ∙ ap next g3 in
          let r : c.field-row.result ≡ row_drawn l.cells l.generator =
          c.field-row.ensures
          ∙ ap₂ (λ (m : ℕ) (g : Generator). drawn (0 to m) g)
          (c.last_row.ensures ∙ ap (λ (k : ℕ). cond (ltb k max_tall) 2 1) st.tally.tall) g1 in
          record {
            row = r;
            given =
                ap₂ (λ (m n : ℕ). m + n)
                (c.largest_in.ensures
                ∙ largest-stands c.field-row.result st row_low
                ∙ ap (λ (k : ℕ). paper.largest k l.cells) r)
                (c.field.ensures ∙ ap (drawn (0 to 12)) g2);
            mirrorable = c.field-mirrorable.ensures ∙ ap (drawn (0 to 1)) g3;
            layouts = c.field-layouts.ensures ∙ ap (drawn (1 to 2)) g4;
            generator = g4;
          };
    }
