-- The gaps of a row, its ends included: what the fill engineer relies on. Document 01, rule 5; document 02, A1.
use Rattle.std.specs.Prelude.{ℕ, ◌+◌, ◌-◌, ◌≡◌, Bool, true, ◌||◌, List, [], ◌∷◌, leb, eqb}
use Rattle.definition.specs.Lists.{all, any, sum}
use Rattle.definition.specs.Texts.{Text}
use Rattle.definition.specs.Job.{Job, read_job, accepted, both_rows}
use Rattle.definition.specs.Placement.{Placement}
use Rattle.definition.specs.Rules.{site_at, end_at, layout_at, row_cells, order, Legal}

-- the empty sites from a site on: before each of some cells, and after the last
abbrev pub gaps_from : Job → Placement → ℕ → List ℕ → List ℕ
gaps_from j P at [] = (j.header.sites - at) ∷ []
gaps_from j P at (k ∷ l) = (site_at P k - at) ∷ gaps_from j P (end_at j P k) l

-- the gaps of a row, from its start to its end
abbrev pub gaps_of : Job → Placement → ℕ → List ℕ
gaps_of j P row = gaps_from j P 0 (order j P row)

-- "every gap between cells being one that a filler can close": no filler and no end cap has one site
abbrev pub is_closable : ℕ → Bool
is_closable gap = eqb gap 0 || leb 2 gap

-- A row that can be filled: each gap can be closed, and the cells and these gaps take up its sites, no more, no less.
pub record Fillable (j : Job) (P : Placement) (row : ℕ) : Type 0 where
  pub closable : all is_closable (gaps_of j P row) ≡ true
  pub whole : sum (λ k. (layout_at j P k).width) (order j P row) + sum (λ gap. gap) (gaps_of j P row) ≡ j.header.sites

-- Of a legal placement of an accepted job, each row that holds a cell can be filled.
abbrev pub FillableOf : Text → Type 0
FillableOf job =
    (j : Job) → read_job job ≡ accepted j → (P : Placement) → Legal j P
    → (row : ℕ) → any (eqb row) both_rows ≡ true → ¬ (row_cells j row ≡ []) → Fillable j P row
