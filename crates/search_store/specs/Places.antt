-- Laws of the store's map: different words stand in different places, and above the layers.
use Rattle.std.specs.Prelude.{ℕ, ◌+◌, ◌*◌, ◌≤◌, ◌<◌, ◌≡◌, List, length}
use Rattle.std.proofs.Common.{inl, inr, arith}
use Rattle.std.proofs.Math.Decide.{dec_lt}
use Rattle.theory_tables.specs.Steps.{pose_slots}
use Rattle.search_store.specs.Map.{max_lanes, state_block, pages_from, costs_at}
use Rattle.search_store.specs.Map.{case_at, pointer_at, Pages, Slot, OutsideCosts}

-- ---- the words of a case

-- different cases stand in different places
pub case-one : (I q₀ q₁ a J p₀ p₁ b : ℕ) → Slot I q₀ q₁ a → Slot J p₀ p₁ b → case_at I q₀ q₁ + a ≡ case_at J p₀ p₁ + b
    → (I ≡ J) × (q₀ ≡ p₀) × (q₁ ≡ p₁) × (a ≡ b)
case-one I q₀ q₁ a j p₀ p₁ b h g e =
    let e₀ : q₀ ≡ p₀ = omega arith in
    let e₁ : q₁ ≡ p₁ = omega arith in
    (omega arith, e₀, e₁, omega arith)

-- no case is a source
pub case_pointer : (I q₀ q₁ a J p₀ p₁ b : ℕ) → Slot I q₀ q₁ a → Slot J p₀ p₁ b
    → case_at I q₀ q₁ + a ≡ pointer_at J p₀ p₁ + b → ⊥
case_pointer I q₀ q₁ a j p₀ p₁ b h g e = let e₀ : q₀ ≡ p₀ = omega arith in omega arith

-- both stand above the layers
pub case-above : (I q₀ q₁ a : ℕ) → (pages_from ≤ case_at I q₀ q₁ + a) × (pages_from ≤ pointer_at I q₀ q₁ + a)
case-above I q₀ q₁ a = (omega arith, omega arith)

-- a page has room for its cases and sources
pub case-room : (I q₀ q₁ a : ℕ) (st : List ℕ) → Slot I q₀ q₁ a → Pages (q₀ + 1) st → pointer_at I q₀ q₁ + a < length st
case-room I q₀ q₁ a st h p = omega arith

-- ---- the words of a cost

-- no case and no source stands among the costs of a start state
pub case-beside : (row s I q₀ q₁ a : ℕ) → row ≤ 1 → Slot I q₀ q₁ a
    → OutsideCosts (costs_at row s) (case_at I q₀ q₁ + a) × OutsideCosts (costs_at row s) (pointer_at I q₀ q₁ + a)
case-beside row s I q₀ q₁ a b h = go (dec_lt q₀ s)
  where
    go : Dec (q₀ < s)
        → OutsideCosts (costs_at row s) (case_at I q₀ q₁ + a) × OutsideCosts (costs_at row s) (pointer_at I q₀ q₁ + a)
    go (yes l) = (inl (omega arith), inl (omega arith))
    go (no l) = (inr (omega arith), inr (omega arith))

-- and the costs of an earlier start state, or of row 0, stand before
pub cost-before : (other t row s q a l : ℕ) → row ≤ 1 → q < 12 → a < pose_slots → l < max_lanes
    → t * 2 + other < s * 2 + row → costs_at other t + q * state_block + a * max_lanes + l < costs_at row s
cost-before other t row s q a l b h g k e = omega arith
