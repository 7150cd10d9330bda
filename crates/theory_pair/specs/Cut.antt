-- One row and its tall cells: a path is cut at a tall cell, and a path up to a state is taken further over one.
use Rattle.std.proofs.Math.Path.{◌≡◌}
use mathlib.Core.List.{List, Memᴰ as In}
use Rattle.std.proofs.Math.Option.{some}
use Rattle.std.specs.Prelude.{ℕ, suc, ◌+◌, ◌-◌, ◌*◌, ◌≤◌, ◌<◌}
use Rattle.theory_row.specs.Window.{Good}
use Rattle.theory_pair.specs.Segment.{Line, Choice, State, Goes, first, cost}
use Rattle.theory_pair.specs.Segment.{after, Move, Way}
use Rattle.theory_pair.specs.Whole.{tall_of}

-- ---- one row: cut at a tall cell, and joined there

module _ {A : Type 0} (R : ℕ) (site_of : A → ℕ) (L : Line A) where
  -- a path from s, cut at its first tall cell
  pub record Cut (s : State A) (p : List (Choice A)) (k : ℕ) (a : A) (ts : List (Choice A)) : Type 0 where
    pub place : ℕ
    pub marks : ℕ
    pub rest : List (Choice A)
    pub cost_if : ℕ
    pub way : Way R site_of L s (place, marks, some (k, a)) cost_if
    pub goes : Goes R site_of L (place, marks, some (k, a)) rest
    pub talls : tall_of L rest ≡ ts
    pub good : Good R marks
    pub low : suc k - R ≤ place
    pub high : place < suc k - R + suc (2 * R)
    pub sum : cost R site_of L s p ≡ cost_if + cost R site_of L (place, marks, some (k, a)) rest
    pub ends : after R site_of L (place, marks, some (k, a)) rest ≡ after R site_of L s p
    pub offered : In a (L.options k)

  -- a path from the row's start, and a move from there to t
  pub record Upto (t : State A) (ts : List (Choice A)) (x : ℕ) : Type 0 where
    pub path : List (Choice A)
    pub goes : Goes R site_of L (first R site_of L) path
    pub talls : tall_of L path ≡ ts
    pub toll : ℕ
    pub move : Move R site_of L (after R site_of L (first R site_of L) path) t toll
    pub sum : cost R site_of L (first R site_of L) path + toll ≡ x
