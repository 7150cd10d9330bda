-- The tables' entries as the loops that compute them, on coded costs: B for none, sums stop at B.
use Prim.Native.Nat.{ℕ, suc, ◌+◌, min}
use Rattle.theory_pair.specs.Forward.{layer}
use Rattle.theory_pair.specs.Coded.{coded}
use Rattle.theory_pair.specs.Segment.{Line, State, singles, move, least}
use Rattle.theory_pair.specs.Pair.{Case, table}

-- ---- a segment: an entry of the layers that start at s

module _ {A : Type 0} (B R : ℕ) (site_of : A → ℕ) (L : Line A) (s : State A) where
  -- the entry after j + 1 moves
  unfoldable pub entry : ℕ → State A → ℕ
  entry j t = coded B (layer (λ i. singles R site_of L (s.0 + suc i)) (λ i u v. move R site_of L u v) s j t)

-- ---- a stage: an entry of the case table of tall cell I + 1, or of the end

module _ {A : Type 0} (B R : ℕ) (site_of : A → ℕ) (L₀ L₁ : Line A) (pos₀ pos₁ : ℕ → ℕ) where
  unfoldable pub case_entry : ℕ → Case A → ℕ
  case_entry I c = coded B (table R site_of L₀ L₁ pos₀ pos₁ I c)

  -- the cost of a stage, from the two rows' segments
  abbrev pub costs : Case A → Case A → ℕ
  costs u c = min (coded B (least R site_of L₀ u.0 c.0) + coded B (least R site_of L₁ u.1 c.1)) B
