-- Two decks by themselves, and a traceback through their tables.
use Rattle.std.specs.Prelude.{◌≡◌, true, cond, ℕ, ◌≤◌, ◌<◌, eqb}
use Rattle.theory_tables.specs.Steps.{B, Deck, pose_slots}
use Rattle.theory_tables.specs.Stages.{least_cost}
use Rattle.theory_tables.specs.Back.{Traced}
use Rattle.theory_tables.specs.Notes.{NotedBy}

-- a deck whose tall cells stand at these positions; what its ends cost is 0 or B
pub record Standing (D : Deck) (talls : ℕ) (pos : ℕ → ℕ) : Type 0 where
  pub tall : (I : ℕ) → I < talls → D.tall (pos I) ≡ true
  pub inside : (I : ℕ) → I < talls → pos I < D.size
  pub only : (k : ℕ) → k < D.size → D.tall k ≡ true → (I : ℕ) × (I < talls) × (k ≡ pos I)
  pub front : (k a : ℕ) → D.front k a ≡ cond (eqb (D.front k a) 0) 0 B
  pub back : (k a : ℕ) → D.back k a ≡ cond (eqb (D.back k a) 0) 0 B

-- a traceback by the words w₀ and w₁
pub record DecksTraced (D₀ D₁ : Deck) (R talls : ℕ) (pos₀ pos₁ w₀ w₁ : ℕ → ℕ) : Type 0 where
  pub first : Standing D₀ talls pos₀
  pub second : Standing D₁ talls pos₁
  pub poses : D₀.poses ≡ D₁.poses
  pub small : D₀.poses ≤ pose_slots
  pub cost : least_cost D₀ D₁ R talls pos₀ pos₁ < B
  pub traced : Traced D₀ D₁ R talls pos₀ pos₁ (NotedBy w₀) (NotedBy w₁) talls 0 0 0
