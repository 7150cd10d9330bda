-- The words of a row that is filled are those of its cells, and stand for it.
use Rattle.std.specs.Prelude.{ℕ, ◌+◌, ◌*◌, ◌≤◌, ◌<◌, ◌≡◌, List, length}
use Rattle.std.proofs.Common.{◌∙◌, arith}
use Rattle.std.proofs.Math.Decide.{dec_lt}
use Rattle.definition.specs.Job.{Job, max_cells}
use Rattle.definition.specs.Job as job
use Rattle.definition.specs.Rules.{cell_at}
use Rattle.definition_laws.specs.Sound.{Sound}
use Rattle.theory_pair.specs.Cells.{Side, members, cell}
use Rattle.theory_bridge.specs.Paired.{row_of, pair_job}
use Rattle.search_row.specs.Words.{word_of, filled_word, cell_words}
use Rattle.search_row.specs.Words.{touching_word}
use Rattle.search_states.specs.Rest.{rest-none, done}
use Rattle.search_row_fill.specs.Cell.{CellWords}
use Rattle.search_row_fill.proofs.Cell.{cell-words}
use Rattle.search_row_fill.specs.Matched.{RowCells, matched, few-poses}
use Rattle.search_row_fill.specs.Filled.{RowFilled, Lined}

module _ (j : Job) (sound : Sound j) (s : Side) (l : List ℕ) (n k : ℕ) (f : RowFilled j s l n k)
    (e : k ≡ length j.cells) where
  row_words : RowCells j s l n
  row_words = record {
    size =
        done (members (pair_job j) s) n f.upto
        (f.left ∙ rest-none (λ i. job.in_row (row_of s) (cell_at j i)) k (length j.cells) (omega arith));
    cells = cells;
    words = record {
      long = f.long;
      word = f.low.word;
      weight = λ p. weight p (dec_lt p n);
      filled = λ p. filled p (dec_lt p n);
    };
  }
    where
      cells : (p : ℕ) → p < n → CellWords j (row_of s) (cell (pair_job j) s p) (word_of l p)
      cells p h = cell-words j (row_of s) (cell (pair_job j) s p) (word_of l p) (f.words p h)

      -- past the row's cells there is 0, and past all cells no large word
      beyond : (p i : ℕ) → (p < n → ⊥) → (touching_word ≤ i) × (i < cell_words) → Dec (p < max_cells)
          → word_of l p i ≤ 131072
      beyond p i h b (yes g) = omega (arith, f.zero (p * cell_words + i) (omega arith) (omega arith))
      beyond p i h b (no g) = omega (arith, f.upper (p * cell_words + i) (omega arith))

      weight : (p : ℕ) → Dec (p < n) → word_of l p touching_word ≤ 131072
      weight p (yes h) = let w = (cells p h).weight in let b = sound.header.step in omega arith
      weight p (no h) = beyond p touching_word h (omega arith, omega arith) (dec_lt p max_cells)

      filled : (p : ℕ) → Dec (p < n) → word_of l p filled_word ≤ 131072
      filled p (yes h) = let w = (cells p h).filled in let b = sound.header.step in omega arith
      filled p (no h) = beyond p filled_word h (omega arith, omega arith) (dec_lt p max_cells)

  pub lined : Lined j s l n
  lined = record {
    matched = matched j sound s l n row_words;
    words = row_words.words;
    size = let a = sound.few in let b = f.below in omega arith;
    few = few-poses j sound s l n row_words;
    number = λ p h. (row_words.cells p h).number;
  }
