-- The generator of document 02 that the program's stands for, and the ranges that it draws from.
use Rattle.std.specs.Prelude.{ℕ, ◌≤◌}
use Rattle.definition.specs.Draws as paper
use Rattle.load_draws.specs.declared.Generator.{Generator}

abbrev pub generator_of : Generator → paper.Generator
generator_of g = record { s = g.s; w = g.w }

-- a range of numbers in their form
pub record InForm (low high : ℕ) : Type 0 where
  pub some : low ≤ high
  pub few : high ≤ 9999
