-- What the search asks: two rows of words, and a store that is long enough, whatever its words.
use Rattle.std.specs.Prelude.{ℕ, ◌≤◌, ◌<◌, ◌≡◌, true, List, length}
use Rattle.definition.specs.Job.{max_cells}
use Rattle.theory_traceback.specs.Decks.{Standing}
use Rattle.search_lanes.specs.Store.{Low}
use Rattle.search_row.specs.declared.Sizes.{Sizes}
use Rattle.search_row.specs.Words.{word_of, number_word, deck_in, pos_in, with_cells, RowGiven}
use Rattle.search_row.specs.Laws.{front-either, back_either}
use Rattle.search_stage.specs.Stage.{StagesGiven}
use Rattle.search.specs.Words.{words_for}

-- the number of the cell at position k: where its pose number is to stand
abbrev pub number_at : List ℕ → ℕ → ℕ
number_at row k = word_of row k number_word

-- a row: its words, the positions of all its tall cells, and a number below max_cells for each cell, no two alike
pub record RowAsked (row : List ℕ) (z : Sizes) : Type 0 where
  pub given : RowGiven row z
  pub tall : (I : ℕ) → I < z.talls → (deck_in row z).tall (pos_in row I) ≡ true
  pub only : (k : ℕ) → k < z.cells → (deck_in row z).tall k ≡ true → (I : ℕ) × (I < z.talls) × (k ≡ pos_in row I)
  pub small : (k : ℕ) → k < z.cells → number_at row k < max_cells
  pub apart : (k m : ℕ) → k < z.cells → m < z.cells → number_at row k ≡ number_at row m → k ≡ m

-- both rows, of which row 1 has n₁ cells; only a tall cell has its number in both
pub record RowsAsked (row₀ row₁ : List ℕ) (z : Sizes) (n₁ : ℕ) : Type 0 where
  pub first : RowAsked row₀ z
  pub second : RowAsked row₁ (with_cells z n₁)
  pub shared : (k m : ℕ) → k < z.cells → m < n₁ → number_at row₀ k ≡ number_at row₁ m
      → (I : ℕ) × (I < z.talls) × (k ≡ pos_in row₀ I) × (m ≡ pos_in row₁ I)

-- the same, and the words of the store that they need
pub record Asked (row₀ row₁ : List ℕ) (z : Sizes) (n₁ : ℕ) (store : List ℕ) : Type 0 where
  pub rows : RowsAsked row₀ row₁ z n₁
  pub long : words_for z.talls z.states ≤ length store

-- the same once those words are cleared
pub record AskedLow (row₀ row₁ : List ℕ) (z : Sizes) (n₁ : ℕ) (store : List ℕ) : Type 0 where
  pub asked : Asked row₀ row₁ z n₁ store
  pub low : Low store

-- its tall cells, as the traceback wants them
pub standing : {row : List ℕ} {z : Sizes} → RowAsked row z → Standing (deck_in row z) z.talls (pos_in row)
standing {row} r = record {
  tall = r.tall;
  inside = r.given.inside;
  only = r.only;
  front = front-either row;
  back = back_either row;
}

pub stages_given : {row₀ row₁ st : List ℕ} {z : Sizes} {n₁ : ℕ} → AskedLow row₀ row₁ z n₁ st
    → StagesGiven row₀ row₁ st z n₁
stages_given w = record {
  given₀ = w.asked.rows.first.given;
  given₁ = w.asked.rows.second.given;
  long = w.asked.long;
  low = w.low;
}
