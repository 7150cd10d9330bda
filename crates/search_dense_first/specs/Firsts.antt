-- Where a state can come first in a segment, and where it cannot.
use Rattle.std.specs.Prelude.{ℕ, suc, ◌+◌, ◌<◌, min, ◌≡◌, refl, Bool, true, false, ◌&&◌, eqb}
use Rattle.std.proofs.Math.Path.{ap}
use Rattle.std.proofs.Math.Bool.{cond}
use Rattle.theory_tables.specs.Steps.{B, Deck, before, last_at, is_there, first_after}
use Rattle.search_row.specs.Words.{there_in}
use Rattle.search_row.specs.Laws.{there-size}

-- state q, the last of i cells, can come first after marks m
abbrev pub starts_at : ℕ → ℕ → ℕ → ℕ → ℕ → Bool
starts_at n R i m q = there_in n R i q && eqb m (before R q)

module _ (D : Deck) (R i m p l q a : ℕ) where
  pub after-there : (is_there D R (suc i) q && eqb m (before R q)) ≡ true
      → first_after D R i m p l q a ≡ min (D.own (last_at R (suc i) q) a + D.toll p l (last_at R (suc i) q) a) B
  unfolding first_after
  after-there e = ap (λ t. cond t (min (D.own (last_at R (suc i) q) a + D.toll p l (last_at R (suc i) q) a) B) B) e

  pub after-away : (is_there D R (suc i) q && eqb m (before R q)) ≡ false → first_after D R i m p l q a ≡ B
  unfolding first_after
  after-away e = ap (λ t. cond t (min (D.own (last_at R (suc i) q) a + D.toll p l (last_at R (suc i) q) a) B) B) e

-- a state that can come first stands in the row
pub starts_size : (n R i m q : ℕ) → starts_at n R i m q ≡ true → last_at R i q < n
starts_size n R i m q e = there-size n R i q (one (there_in n R i q) (eqb m (before R q)) e)
  where
    one : (s t : Bool) → (s && t) ≡ true → s ≡ true
    one true t h = refl
    one false t h = h
