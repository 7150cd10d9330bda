-- Which row of the pair theory a deck stands for: poses by number.
use Rattle.std.specs.Prelude.{ℕ, ◌<◌, ◌≡◌, Bool, true, cond, map}
use Rattle.std.proofs.Math.Option.{some}
use Rattle.lists.specs.Numbers.{from}
use Rattle.theory_pair.specs.Pick.{pick}
use Rattle.theory_pair.specs.Segment.{Line, FitsTo}
use Rattle.theory_tables.specs.Steps.{B, Deck}

-- pose a of the cell at position k is `pose k a`, and is offered if `offered k a`
pub record Matched {A : Type 0} (site_of : A → ℕ) (L : Line A) (D : Deck) (pose : ℕ → ℕ → A)
    (offered : ℕ → ℕ → Bool) : Type 0 where
  pub size : D.size ≡ L.size
  pub options : (k : ℕ) → k < L.size → L.options k ≡ map (pose k) (pick (offered k) (from 0 D.poses))
  pub tall : (k : ℕ) → k < L.size → D.tall k ≡ L.tall k
  pub own : (k a : ℕ) → k < L.size → a < D.poses → D.own k a ≡ cond (offered k a) (L.own k (pose k a)) B
  pub front : (k a : ℕ) → k < L.size → a < D.poses → offered k a ≡ true
      → D.front k a ≡ cond (L.opens k (pose k a)) 0 B
  pub back : (k a : ℕ) → k < L.size → a < D.poses → offered k a ≡ true
      → D.back k a ≡ cond (L.closes k (pose k a)) 0 B
  pub pays : (k b m a : ℕ) → k < L.size → b < D.poses → m < L.size → a < D.poses → offered k b ≡ true
      → offered m a ≡ true
      → FitsTo 0 site_of L (some (k, pose k b)) (m, pose m a) → D.toll k b m a ≡ L.pay (k, pose k b) (m, pose m a)
  pub barred : (k b m a : ℕ) → k < L.size → b < D.poses → m < L.size → a < D.poses → offered k b ≡ true
      → offered m a ≡ true
      → ¬ FitsTo 0 site_of L (some (k, pose k b)) (m, pose m a) → D.toll k b m a ≡ B
