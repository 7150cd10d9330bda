-- Invariant: it is told how the cells below k stand, and the others are empty.
use Rattle.std.proofs.Common.{◌≡◌, ℕ, ◌<◌, List, length}
use Rattle.definition.specs.Job.{max_cells}
use Rattle.job.specs.declared.Job.{Job}
use Rattle.job.specs.declared.Placement.{Placement}
use Rattle.score_order.specs.declared.Stand.{Stand}
use Rattle.score_order.specs.Words.{stand_in}
use Rattle.score_words.specs.Flat.{EmptyFrom}
use Rattle.score_words.specs.Shown.{stand_at}
use Rattle.score_words.proofs.stands_of.Given as goal

pub record Told (job : Job) (placement : Placement) (stands : List Stand) (k : ℕ) : Type 0 where
  pub long : length stands ≡ max_cells
  pub each : (i : ℕ) → i < k → stand_in stands i ≡ stand_at job placement i
  pub rest : EmptyFrom k stands

abbrev pub invariant-loop-k : goal.invariant-loop-k
invariant-loop-k l = Told l.job l.placement l.stands l.k
