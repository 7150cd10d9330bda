-- Laws of a row in file order: its last cell, a way, and sites with D added.
use Rattle.std.specs.Prelude.{ℕ, zero, suc, ◌+◌, ◌*◌, ◌≤◌, ◌<◌, min, ◌≡◌, refl, Bool, true, false, ◌&&◌, cond, List, leb}
use Rattle.std.proofs.Common.{arith, le-leb}
use Rattle.std.proofs.lemmas.Bool.{lt-leb}
use Rattle.theory_tables.specs.Steps.{B}
use Rattle.theory_cover.specs.FileRow.{start_of, end_of}
use Rattle.theory_cover.specs.Recurrence.{new_sites}
use Rattle.search_row.specs.Words.{word_of, RowWords, cell_words, first_word, width_word}
use Rattle.staples_ways.specs.declared.LastCell.{LastCell}
use Rattle.staples_ways.specs.Words.{site_of_number, ok_in, file_row, FileWords}
use Rattle.staples_ways.specs.Words.{last_cell, LastStands, way_in}

-- ---- the last cell

-- it lies in reach
pub last-start-low : (row : List ℕ) (d p : ℕ) → RowWords row → d < 15 → (last_cell row d p 0).start ≤ B + 15
last-start-low row d zero w h = omega arith
last-start-low row d (suc p) w h = omega (arith, w.word (p * cell_words + first_word))

pub last-end-low : (row : List ℕ) (d p : ℕ) → RowWords row → d < 15 → (last_cell row d p 0).end ≤ B + B + 15
last-end-low row d zero w h = omega arith
last-end-low row d (suc p) w h =
    omega (arith, w.word (p * cell_words + first_word), w.word (p * cell_words + width_word))

-- ---- a way

module _ (row : List ℕ) (n p : ℕ) (last : LastCell) (rest v : ℕ) where
  -- what is covered anew, and what is left then
  abbrev all : ℕ
  all = min (new_sites last.end (site_of_number row p v) (word_of row p width_word) + rest) B

  pub way-closed : ok_in row n p v ≡ false → way_in row n p last rest v ≡ B
  way-closed e = rw e refl

  pub way-left : site_of_number row p v < last.start → way_in row n p last rest v ≡ B
  way-left h = rw (lt-leb last.start (site_of_number row p v) h) (go (ok_in row n p v))
    where
      go : (z : Bool)
          → cond (z && false) all B ≡ B
      go true = refl
      go false = refl

  pub way_open : ok_in row n p v ≡ true → last.start ≤ site_of_number row p v
      → way_in row n p last rest v
      ≡ min (new_sites last.end (site_of_number row p v) (word_of row p width_word) + rest) B
  way_open e h = rw (e, le-leb last.start (site_of_number row p v) h) refl

  pub way-low : way_in row n p last rest v ≤ B
  way-low = go (ok_in row n p v && leb last.start (site_of_number row p v))
    where
      go : (z : Bool) → cond z all B ≤ B
      go true = omega arith
      go false = omega arith

-- ---- with D added

module _ {row : List ℕ} {n d : ℕ} (w : FileWords row n d) where
  pub start-added : (p t : ℕ) → LastStands row n d p t
      → (last_cell row d p 0).start + t ≡ start_of (file_row row n d) p t + d
  start-added zero t h = omega arith
  start-added (suc p) t h = omega (arith, w.right p t h.0 h.1 h.2)

  pub end-added : (p t : ℕ) → LastStands row n d p t → (last_cell row d p 0).end + t ≡ end_of (file_row row n d) p t + d
  end-added zero t h = omega arith
  end-added (suc p) t h = omega (arith, w.right p t h.0 h.1 h.2)
