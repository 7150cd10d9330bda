-- Two rows that share their tall cells. A case of a tall cell is the state of each row just after it. Stages
-- go from case to case, over the single cells of either row; a legal pair of rows is cut into stages, and
-- stages join to a legal pair, at the same cost.
use Rattle.std.specs.Prelude.{◌≡◌, true}
use mathlib.Core.List.{List, [], ◌∷◌, ◌++◌}
use Rattle.std.proofs.Math.Option.{Option, some}
use Prim.Native.Nat.{ℕ, suc, ◌+◌, ◌-◌, ◌*◌, ◌<◌}
use Rattle.std.proofs.Math.ListN.{length}
use Rattle.lists.specs.Numbers.{from}
use Rattle.theory_pair.specs.Forward.{each, add}
use Rattle.theory_pair.specs.Forward.{Trail, layer}
use Rattle.theory_pair.specs.Pick.{good_marks}
use Rattle.theory_pair.specs.Segment.{Line, Choice, State, Goes, first, last, cost}
use Rattle.theory_pair.specs.Segment.{after, Way, least}
use Rattle.theory_pair.specs.Whole.{tall_of, picks}
use Rattle.theory_pair.specs.Cut.{Upto}

-- the places and marks that can be just after cell k of a row
unfoldable pub spots : ℕ → ℕ → List (ℕ × ℕ)
spots R k = each (from (suc k - R) (suc (2 * R))) λ i. each (good_marks R) λ m. (i, m) ∷ []

-- tall cell I is cell pos I of the row
pub record Talls {A : Type 0} (L : Line A) (N : ℕ) (pos : ℕ → ℕ) : Type 0 where
  pub tall : (I : ℕ) → I < N → L.tall (pos I) ≡ true
  pub inside : (I : ℕ) → I < N → pos I < L.size
  pub only : (k : ℕ) → k < L.size → L.tall k ≡ true → (I : ℕ) × (I < N) × (k ≡ pos I)

abbrev pub Case : Type 0 → Type 0
Case A = State A × State A

module _ {A : Type 0} (R : ℕ) (site_of : A → ℕ) (L₀ L₁ : Line A) (pos₀ pos₁ : ℕ → ℕ) where
  -- the cases of tall cell I: its pose and, in each row, the place and the marks just after it
  unfoldable pub cases : ℕ → List (Case A)
  cases I =
      each (L₀.options (pos₀ I)) λ a. each (spots R (pos₀ I)) λ s. each (spots R (pos₁ I)) λ t.
      ((s.0, s.1, some (pos₀ I, a)), (t.0, t.1, some (pos₁ I, a))) ∷ []

  abbrev pub opening : Case A
  opening = (first R site_of L₀, first R site_of L₁)

  abbrev pub ending : Case A
  ending = (last R site_of L₀, last R site_of L₁)

  -- from case to case: single cells in row 0, and single cells in row 1
  abbrev pub Stage : ℕ → Case A → Case A → ℕ → Type 0
  Stage I c t x = (y : ℕ) × (z : ℕ) × Way R site_of L₀ c.0 t.0 y × Way R site_of L₁ c.1 t.1 z × (y + z ≡ x)

  -- stages 0 to I, the last to the case c
  abbrev pub Stages : ℕ → Case A → ℕ → Type 0
  Stages I c x = Trail cases Stage opening I c x

  -- the least cost of a stage; of all stages up to a case
  unfoldable pub stage_least : ℕ → Case A → Case A → Option ℕ
  stage_least I c t = add (least R site_of L₀ c.0 t.0) (least R site_of L₁ c.1 t.1)

  unfoldable pub table : ℕ → Case A → Option ℕ
  table I c = layer cases stage_least opening I c

  -- ---- stages join to two paths

  pub record CaseJoined (c : Case A) (I x : ℕ) : Type 0 where
    pub ps : List A
    pub size : length ps ≡ I
    pub x₀ : ℕ
    pub x₁ : ℕ
    pub row₀ : Upto R site_of L₀ c.0 (picks pos₀ 0 ps) x₀
    pub row₁ : Upto R site_of L₁ c.1 (picks pos₁ 0 ps) x₁
    pub sum : x₀ + x₁ ≡ x

  module _ (N : ℕ) (T₀ : Talls L₀ N pos₀) (T₁ : Talls L₁ N pos₁)
      (same : (I : ℕ) → I < N → L₀.options (pos₀ I) ≡ L₁.options (pos₁ I)) where
    -- ---- two starts of rows, up to a tall cell, are cut into stages; and stages to a tall cell are such starts

    -- a start of one row to a tall cell
    pub record StartOf (L : Line A) (c : Choice A) (ts : List (Choice A)) (t : State A) (x : ℕ) : Type 0 where
      pub path : List (Choice A)
      pub goes : Goes R site_of L (first R site_of L) (path ++ (c ∷ []))
      pub talls : tall_of L path ≡ ts
      pub ends : after R site_of L (first R site_of L) (path ++ (c ∷ [])) ≡ t
      pub sum : cost R site_of L (first R site_of L) (path ++ (c ∷ [])) ≡ x
