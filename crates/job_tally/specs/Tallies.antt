-- What is kept of the cells so far, and that it decides whether one more finds room and does not fall.
use Rattle.std.specs.Prelude.{ℕ, ◌+◌, ◌<◌, max, ◌≡◌, Bool, not, ◌&&◌, ◌||◌, cond, [], ◌∷◌, length, leb, ltb, eqb}
use Rattle.std.proofs.Common.{sym, length-append}
use Rattle.definition.specs.Lists.{keep}
use Rattle.definition.specs.Job.{Cell, Job, max_cells, max_tall, is_tall, has_room, not_falling, with_cell}
use Rattle.definition.specs.Load.{largest_in}
use Rattle.job_laws.specs.Lists.{keep-more}
use Rattle.job_laws.specs.Rising.{largest-more, rises-cells}
use Rattle.job_tally.specs.declared.Tally.{Tally}

pub record Tallies (j : Job) (t : Tally) : Type 0 where
  pub rows : t.rows ≡ j.header.rows
  pub count : t.count ≡ length j.cells
  pub tall : t.tall ≡ length (keep is_tall j.cells)
  pub first : t.first ≡ largest_in 0 j.cells
  pub second : t.second ≡ largest_in 1 j.cells

-- ---- one more cell

-- neither count is so high that one more would not fit
pub record TallyRoom (t : Tally) : Type 0 where
  pub count : t.count < max_cells
  pub tall : t.tall < max_cells

abbrev pub held : ℕ → ℕ → Bool
held row of = eqb of 2 || eqb of row

abbrev pub tally_with : Tally → ℕ → ℕ → Tally
tally_with t row given = record {
  rows = t.rows;
  count = t.count + 1;
  tall = t.tall + cond (eqb row 2) 1 0;
  first = max t.first (cond (held 0 row) given 0);
  second = max t.second (cond (held 1 row) given 0);
}

pub tallies-more : {j : Job} {t : Tally} → Tallies j t → (c : Cell)
    → Tallies (with_cell j c) (tally_with t c.row c.given)
tallies-more {j} {t} s c = record {
  rows = s.rows;
  count = rw s.count (sym (length-append j.cells (c ∷ [])));
  tall = rw s.tall (sym (keep-more is_tall c j.cells));
  first = rw s.first (sym (largest-more 0 j.cells c));
  second = rw s.second (sym (largest-more 1 j.cells c));
}

-- ---- the tests

abbrev pub room : Tally → ℕ → Bool
room t row = ltb t.count max_cells && (not (eqb row 2) || ltb t.tall max_tall)

abbrev pub rises : Tally → ℕ → ℕ → Bool
rises t row given = (not (held 0 row) || leb t.first given) && (not (held 1 row) || leb t.second given)

module _ {j : Job} {t : Tally} (s : Tallies j t) (c : Cell) where
  pub room-cells : room t c.row ≡ has_room j.cells c
  room-cells = rw (s.count, s.tall)

  pub rises-tally : rises t c.row c.given ≡ not_falling j.cells c
  rises-tally = rw (s.first, s.second) (rises-cells j.cells c)
