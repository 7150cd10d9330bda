-- A row in file order as the words that a search reads: where its cells may stand in layout 0, unmirrored. Sites and
-- ends are compared with D added.
use Rattle.std.specs.Prelude.{ℕ, zero, suc, ◌+◌, ◌-◌, ◌*◌, ◌≤◌, ◌<◌, min, ◌≡◌, Bool, true, not, ◌&&◌, ◌||◌, cond, List, leb, ltb, eqb}
use Rattle.definition.specs.Job.{max_cells}
use Rattle.theory_tables.specs.Steps.{B}
use Rattle.theory_cover.specs.FileRow.{FileRow}
use Rattle.theory_cover.specs.Recurrence.{new_sites}
use Rattle.search_row.specs.Words.{word_of, RowWords, first_word, width_word, back_barred}
use Rattle.staples_ways.specs.declared.LastCell.{LastCell}

-- so many site numbers a cell can have
abbrev pub max_numbers : ℕ
max_numbers = 15

-- where the cell at position p starts and ends at its site number t
abbrev pub site_of_number : List ℕ → ℕ → ℕ → ℕ
site_of_number row p t = word_of row p first_word + t

abbrev pub end_of_number : List ℕ → ℕ → ℕ → ℕ
end_of_number row p t = site_of_number row p t + word_of row p width_word

-- it may stand there: rules 1 to 3, and rule 8 if it is the last of n
abbrev pub ok_in : List ℕ → ℕ → ℕ → ℕ → Bool
ok_in row n p t =
    ltb (word_of row p (4 * t)) B && (not (eqb (suc p) n) || not (eqb (end_of_number row p t) (word_of row p back_barred)))

abbrev pub file_row : List ℕ → ℕ → ℕ → FileRow
file_row row n d =
    record {
      size = n;
      wide = λ p. word_of row p width_word;
      site_numbers = 2 * d + 1;
      site = λ p t. site_of_number row p t - d;
      ok = ok_in row n;
    }

-- a row's words, none of whose cells may stand left of the row's first site
pub record FileWords (row : List ℕ) (n d : ℕ) : Type 0 where
  pub words : RowWords row
  pub few : n ≤ max_cells
  pub near : 2 * d + 1 ≤ max_numbers
  pub right : (p t : ℕ) → p < n → t < 2 * d + 1 → ok_in row n p t ≡ true → d ≤ site_of_number row p t

-- where the last of p cells starts and ends at its site number t; the row's left end if there is none
abbrev pub last_cell : List ℕ → ℕ → ℕ → ℕ → LastCell
last_cell row d zero t = record { start = d; end = d }
last_cell row d (suc p) t = record { start = site_of_number row p t; end = end_of_number row p t }

-- that cell may stand there; number 0 serves where there is none
abbrev pub LastStands : List ℕ → ℕ → ℕ → ℕ → ℕ → Type 0
LastStands row n d zero t = t ≡ 0
LastStands row n d (suc p) t = (p < n) × (t < 2 * d + 1) × (ok_in row n p t ≡ true)

-- by way of the cell at position p of n, at its site number v: what it covers anew after the other row's last cell, and
-- what is left to be covered then; B where it may not stand, or left of that cell's start
abbrev pub way_in : List ℕ → ℕ → ℕ → LastCell → ℕ → ℕ → ℕ
way_in row n p last rest v =
    cond (ok_in row n p v && leb last.start (site_of_number row p v))
    (min (new_sites last.end (site_of_number row p v) (word_of row p width_word) + rest) B) B

-- ---- what the functions are given

pub record NumberAt (row : List ℕ) (p t : ℕ) : Type 0 where
  pub words : RowWords row
  pub cell : p < max_cells
  pub number : t < max_numbers

-- the last of p cells, if there is one
pub record LastAt (row : List ℕ) (d p t : ℕ) : Type 0 where
  pub words : RowWords row
  pub few : p ≤ max_cells
  pub number : t < max_numbers
  pub near : d < max_numbers

-- a way by the cell at position p, with so much left
pub record WayAsked (row : List ℕ) (p : ℕ) (last : LastCell) (rest v : ℕ) : Type 0 where
  pub cell : NumberAt row p v
  pub start : last.start ≤ B + B
  pub end : last.end ≤ B + B + B
  pub low : rest ≤ B
