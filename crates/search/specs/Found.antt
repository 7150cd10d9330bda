-- What the search finds, in terms of the tables of the two rows: their least cost, if it is below B, and the pose
-- numbers that a traceback through them notes.
use Rattle.std.specs.Prelude.{ℕ, suc, ◌+◌, ◌/◌, ◌%◌, ◌≤◌, ◌<◌, ◌≡◌, Bool, true, false, List, length, Option, MatchOption}
use Rattle.std.proofs.Math.Path.{ap}
use Rattle.std.proofs.Common.{◌∙◌}
use Rattle.std.proofs.lemmas.Bool.{false≢true}
use native.Mathlib.Omega.{arith}
use Rattle.std.proofs.Math.ListN.{get_or}
use Rattle.definition.specs.Job.{max_cells}
use Rattle.search_store.specs.Map.{case_at}
use Rattle.theory_tables.specs.Steps.{B, Deck, state_count, pose_slots}
use Rattle.theory_tables.specs.Stages.{least_cost}
use Rattle.theory_tables.specs.Back.{Traced}
use Rattle.theory_tables.specs.Notes.{NotedBy}
use Rattle.search_row.specs.declared.Sizes.{Sizes}
use Rattle.search.specs.declared.Found.{Found}
use Rattle.search_row.specs.Words.{deck_in, pos_in, with_cells}
use Rattle.search_join.specs.Tables.{cases_in}
use Rattle.search_stage.specs.Stage.{wide, StagesGiven, RowsStages}
use Rattle.search_stage.specs.Laws.{wide-last}
use Rattle.search_back.specs.Trace.{Ways, stages_ways}
use Rattle.search.specs.Rows.{number_at, RowsAsked}

module _ (row₀ row₁ : List ℕ) (z : Sizes) (n₁ : ℕ) where
  abbrev pub deck₀ : Deck
  deck₀ = deck_in row₀ z

  abbrev pub deck₁ : Deck
  deck₁ = deck_in row₁ (with_cells z n₁)

  -- what the tables come to
  abbrev pub least : ℕ
  least = least_cost deck₀ deck₁ z.reordering z.talls (pos_in row₀) (pos_in row₁)

  -- a traceback through them, by the words of two paths
  abbrev pub RowsTraced : (ℕ → ℕ) → (ℕ → ℕ) → Type 0
  RowsTraced w₀ w₁ =
      Traced deck₀ deck₁ z.reordering z.talls (pos_in row₀) (pos_in row₁) (NotedBy w₀) (NotedBy w₁) z.talls 0 0 0

  -- the pose number that such a traceback notes for each cell, by cell number
  pub record Posed (poses : List ℕ) : Type 0 where
    pub path₀ : ℕ → ℕ
    pub path₁ : ℕ → ℕ
    pub traced : RowsTraced path₀ path₁
    pub posed₀ : (i : ℕ) → 0 < i → i ≤ z.cells
        → get_or poses (number_at row₀ (path₀ i / pose_slots)) 0 ≡ path₀ i % pose_slots
    pub posed₁ : (i : ℕ) → 0 < i → i ≤ n₁ → get_or poses (number_at row₁ (path₁ i / pose_slots)) 0 ≡ path₁ i % pose_slots

  pub record RowsFound (found : Bool) (cost : ℕ) (poses : List ℕ) : Type 0 where
    pub none_when : found ≡ false → least ≡ B
    pub some_when : found ≡ true → least < B
    pub stated : found ≡ true → cost ≡ least
    pub posed : found ≡ true → Posed poses
    pub numbers : (k : ℕ) → get_or poses k 0 < pose_slots

  -- nothing where they come to B; else their least cost, and the poses of a traceback
  abbrev pub FoundIfAny : Option Found → Type 0
  FoundIfAny r = MatchOption r (least ≡ B) (λ f. RowsFound true f.cost f.poses)

  -- nothing found, with any poses
  pub found_none : {x : ℕ} {poses : List ℕ} → least ≡ B → ((k : ℕ) → get_or poses k 0 < pose_slots) → RowsFound false x poses
  found_none e small = record {
    none_when = λ _. e;
    some_when = λ e. absurd (false≢true e);
    stated = λ e. absurd (false≢true e);
    posed = λ e. absurd (false≢true e);
    numbers = small;
  }

  -- ---- the least cost

  -- the stages are done, and this is what they come to
  pub record Costed (old new : List ℕ) (x : ℕ) : Type 0 where
    pub done : RowsStages row₀ row₁ z n₁ old new
    pub cost : x ≡ least
    pub low : x ≤ B

  -- the one case of the last table is the least cost
  pub costed : {old new : List ℕ} {x at : ℕ} → at ≡ case_at (z.talls + 1) 0 0 → x ≡ get_or new at 0
      → RowsStages row₀ row₁ z n₁ old new → Costed old new x
  unfolding cases_in
  costed {old} {new} {at = at} w e d =
      let i : at ≡ case_at (suc z.talls) 0 0 + 0 = omega arith in
      record {
        done = d;
        cost = e ∙ ap (λ (k : ℕ). get_or new k 0) i ∙ d.right z.talls 0 0 0 (omega arith)
            (one (state_count z.reordering)) (one (state_count z.reordering)) (one z.poses);
        low = omega (arith, d.low.word at);
      }
    where
      one : (k : ℕ) → 0 < wide z.talls (suc z.talls) k
      one k = omega (arith, wide-last z.talls (suc z.talls) k (omega arith))

  -- tables from which a placement can be traced
  pub record Tables (st : List ℕ) : Type 0 where
    pub given : StagesGiven row₀ row₁ st z n₁
    pub ways : Ways deck₀ deck₁ z.reordering z.talls (pos_in row₀) (pos_in row₁) st
    pub some : least < B

  pub traceable : {old new : List ℕ} {x : ℕ} → StagesGiven row₀ row₁ old z n₁ → Costed old new x → x < B → Tables new
  traceable g c u = record {
    given = record {
      given₀ = g.given₀;
      given₁ = g.given₁;
      long = omega (arith, g.long, c.done.long);
      low = c.done.low;
    };
    ways = stages_ways c.done;
    some = omega (arith, c.cost);
  }

  -- such tables of the rows, and room for a pose number of each cell
  pub record Answering (st poses : List ℕ) : Type 0 where
    pub rows : RowsAsked row₀ row₁ z n₁
    pub tables : Tables st
    pub room : max_cells ≤ length poses
    pub numbers : (k : ℕ) → get_or poses k 0 < pose_slots

  -- ---- what is answered

  -- the pose numbers of a placement that was traced
  pub record PosesAnswered (poses : List ℕ) : Type 0 where
    pub posed : Posed poses
    pub numbers : (k : ℕ) → get_or poses k 0 < pose_slots
