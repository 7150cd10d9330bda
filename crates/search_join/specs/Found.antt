-- The least of some costs where one of them is below B, and a place that has a cost where there is one.
use Rattle.std.specs.Prelude.{ℕ, ◌<◌, ◌≡◌, Option, None, Some}
use Rattle.theory_tables.specs.Steps.{B}
use Rattle.search_join.specs.declared.Best.{Best}
use Rattle.search_join.specs.Tables.{Least, MetAt}

-- what the least so far costs
abbrev pub cost_of : Option Best → ℕ
cost_of None = B
cost_of (Some best) = best.value

-- the least cost, and where it is, as W has it, if it is below B
abbrev pub LeastFound : ℕ → (ℕ → ℕ → Type 0) → Option Best → Type 0
LeastFound least W None = least ≡ B
LeastFound least W (Some best) = (best.value < B) × Least least W best.value best.code

-- a place below n with that cost, if there is one
abbrev pub SumFound : (ℕ → ℕ) → ℕ → ℕ → Option ℕ → Type 0
SumFound h n cost None = (k : ℕ) → k < n → h k ≡ cost → ⊥
SumFound h n cost (Some r) = MetAt h n cost r
