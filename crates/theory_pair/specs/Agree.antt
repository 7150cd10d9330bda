-- Two rows of poses, one for each row, that agree on the tall cells: cut into stages, and joined from them.
use Rattle.std.specs.Prelude.{◌≡◌, ℕ, ◌<◌, get_or}
use mathlib.Core.List.{List}
use Rattle.theory_pair.specs.Segment.{Line, Choice, Goes, Done}
use Rattle.theory_pair.specs.Segment.{first, cost, after}
use Rattle.theory_pair.specs.Whole.{row_total, RowPlaced, Wide}
use Rattle.theory_pair.specs.Whole.{tall_of, picks, poses}
use Rattle.theory_pair.specs.Pair.{Talls}

-- ---- one row

module _ {A : Type 0} (R : ℕ) (site_of : A → ℕ) (L : Line A) (w : Wide L) (N : ℕ) (pos : ℕ → ℕ) (T : Talls L N pos) where
  pub record PathReady (g : ℕ → A) (h : ℕ → A) : Type 0 where
    pub path : List (Choice A)
    pub goes : Goes R site_of L (first R site_of L) path
    pub talls : tall_of L path ≡ picks pos 0 (poses h 0 N)
    pub ends : Done R site_of L (after R site_of L (first R site_of L) path)
    pub total : cost R site_of L (first R site_of L) path ≡ row_total site_of L g

  -- a row with poses g, of which the tall cells have those of ps, at cost x
  pub record Made (g : ℕ → A) (ps : List A) (d : A) (x : ℕ) : Type 0 where
    pub placed : RowPlaced R site_of L g
    pub keeps : (I J : ℕ) → I < J → J < N → site_of (g (pos I)) < site_of (g (pos J))
    pub poses : (I : ℕ) → I < N → g (pos I) ≡ get_or ps I d
    pub total : row_total site_of L g ≡ x

-- ---- two rows

module _ {A : Type 0} (R : ℕ) (site_of : A → ℕ) (L₀ L₁ : Line A) (pos₀ pos₁ : ℕ → ℕ) (N : ℕ) where
  -- legal rows with the same poses for the tall cells, which keep their file order
  pub record Agree (g₀ g₁ : ℕ → A) : Type 0 where
    pub row₀ : RowPlaced R site_of L₀ g₀
    pub row₁ : RowPlaced R site_of L₁ g₁
    pub shared : (I : ℕ) → I < N → g₀ (pos₀ I) ≡ g₁ (pos₁ I)
    pub keeps : (I J : ℕ) → I < J → J < N → site_of (g₀ (pos₀ I)) < site_of (g₀ (pos₀ J))
