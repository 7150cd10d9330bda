-- Two rows whose tall cells are the same.
use Rattle.std.specs.Prelude.{◌≡◌}
use Prim.Native.Nat.{ℕ, ◌<◌}
use Rattle.theory_tables.specs.StagesRight.{Row}

-- two rows with the same tall cells: each has the same poses in both, and the same of them are offered
pub record Alike {A : Type 0} {site_of : A → ℕ} {talls : ℕ} (X₀ X₁ : Row site_of talls) : Type 0 where
  pub poses : X₀.deck.poses ≡ X₁.deck.poses
  pub pose : (I a : ℕ) → I < talls → a < X₀.deck.poses → X₀.pose (X₀.pos I) a ≡ X₁.pose (X₁.pos I) a
  pub offered : (I a : ℕ) → I < talls → a < X₀.deck.poses → X₀.offered (X₀.pos I) a ≡ X₁.offered (X₁.pos I) a
