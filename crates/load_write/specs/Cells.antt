-- A cell's layouts, its line, and what it leaves to the next.
use Rattle.std.specs.Prelude.{ℕ, ◌+◌, ◌*◌, ◌-◌, ◌≤◌, ◌<◌, ◌≡◌, refl, Bool, true, cond, List, [], ◌∷◌, ◌++◌, length, replicate, eqb}
use Rattle.std.proofs.Common.{sym, ap, ◌∙◌, append_assoc, arith, mul-le-mul_right, add-one}
use Rattle.std.proofs.Math.Bool.{false}
use Rattle.std.proofs.lemmas.List.{length-replicate}
use Rattle.definition.specs.Lists.{all}
use Rattle.definition.specs.Texts.{line_feed}
use Rattle.definition.specs.Job.{is_tall, cell_lead, layout_size, cell_of, max_cells}
use Rattle.definition.specs.Draws.{Range, ◌to◌, seeded, draws, drawn_all}
use Rattle.definition.specs.Load.{Load, load_header, load_room, load_of, repeated}
use Rattle.definition.specs.Load.{numbers_drawn, listed, numbers_line, with_numbers}
use Rattle.text_write.specs.Put.{Room, Wrote}
use Rattle.text_write.specs.Puts.{then, wrote_length}
use Rattle.job_laws.specs.Lists.{keep-few}
use Rattle.job_tally.specs.declared.Tally.{Tally}
use Rattle.job_tally.specs.Tallies.{tally_with, tallies-more}
use Rattle.load_laws.specs.Draws.{inside, length-drawn, draws-add, all_replicate, length-repeated, all-repeated}
use Rattle.load_laws.specs.Lines.{layout_fields, line_bytes}
use Rattle.load_laws.specs.Accepted.{LoadSound}
use Rattle.load_draws.specs.declared.Generator as program
use Rattle.load_draws.specs.Generators.{generator_of}
use Rattle.load_write.specs.declared.Cursor.{Cursor}
use Rattle.load_write.specs.declared.Progress.{Progress}
use Rattle.load_write.specs.declared.Opening.{Opening}
use Rattle.load_write.specs.Openings.{ProgressOf, CellRoom, DrewOpening, OpeningOf}
use Rattle.load_write.specs.Openings.{opening_numbers, opening_text, opening-long}
use Rattle.load_write.specs.Fields.{FieldsRoom, WroteFields, rest-room, listed_append, fields-end}

-- the ranges of a layout with so many heights
abbrev pub layout_of : ℕ → List Range
layout_of heights = (1 to 16) ∷ replicate heights (1 to 4)

layout-inside : (heights : ℕ) → all (inside 0 9999) (layout_of heights) ≡ true
layout-inside heights = all_replicate (inside 0 9999) heights (1 to 4) refl

-- where all layouts fit, one more fits after some
pub layout-room : (layouts heights i : ℕ) {c d : Cursor} {l m : List ℕ}
    → FieldsRoom (length (repeated layouts (layout_of heights))) c.at l
    → WroteFields (repeated i (layout_of heights)) c l m d → i < layouts
    → FieldsRoom (length (layout_of heights)) d.at m
layout-room layouts heights i room w h =
    let one = length (layout_of heights) in
    let more : (i + 1) * one ≤ layouts * one = mul-le-mul_right one (omega arith) in
    rest-room room (all-repeated (inside 0 9999) i (layout_of heights) (layout-inside heights)) w
    (omega (arith, length-repeated layouts (layout_of heights), length-repeated i (layout_of heights)))

-- ---- a line

-- the longest line fits
pub record LineRoom (at : ℕ) (output : List ℕ) : Type 0 where
  pub fits : at + line_bytes ≤ length output

-- and one more cell keeps all numbers within theirs
pub record CellGiven (p : Progress) (output : List ℕ) : Type 0 where
  pub cell : CellRoom p
  pub line : LineRoom p.cursor.at output

-- for every load that the progress stands for, the line of its next cell, and what stands for it with that cell
pub record WroteCell (p : Progress) (before end : List ℕ) (r : Progress) : Type 0 where
  pub bytes : (l : Load) → ProgressOf l p
      → Wrote (numbers_line (numbers_drawn l.cells l.generator)) before p.cursor.at end r.cursor.at
  pub stands : (l : Load) → ProgressOf l p → ProgressOf (with_numbers l (numbers_drawn l.cells l.generator)) r

-- at most two layouts of nine numbers
layouts-few : (layouts heights row : ℕ) → layouts ≤ 2 → heights ≡ layout_size row - 1
    → length (repeated layouts (layout_of heights)) ≤ layout_fields
layouts-few layouts heights row h e =
    let long = length-repeated layouts (layout_of heights) in
    let size : length (layout_of heights) ≡ heights + 1 = omega (arith, length-replicate heights (1 to 4)) in
    omega (arith, long, ap (λ (k : ℕ). layouts * k) size, go (eqb row 2) e)
  where
    go : (t : Bool) → heights ≡ cond t 9 5 - 1 → layouts * (heights + 1) ≤ layout_fields
    go true f = rw f (omega arith)
    go false f = rw f (omega arith)

-- the ranges of all layouts
abbrev ranges_of : Opening → ℕ → List Range
ranges_of h heights = repeated h.layouts (layout_of heights)

module _ {l : Load} {h : Opening} (heights : ℕ) (d : OpeningOf l h) (e : heights ≡ layout_size h.row - 1) where
  abbrev more : List ℕ
  more = drawn_all (ranges_of h heights) (generator_of h.generator)

  -- the numbers drawn are the opening's and those of the layouts
  numbers_in_lem : numbers_drawn l.cells l.generator ≡ opening_numbers h ++ more
  unfolding numbers_drawn
  numbers_in_lem = rw (e, d.row, d.given, d.mirrorable, d.layouts, d.generator)

  -- the line in the three parts that are written
  line_in : numbers_line (numbers_drawn l.cells l.generator) ≡ opening_text h ++ (listed more ++ (line_feed ∷ []))
  line_in =
      ap numbers_line numbers_in_lem
      ∙ ap (λ (t : List ℕ). cell_lead ∷ (t ++ (line_feed ∷ []))) (listed_append (opening_numbers h) more)
      ∙ ap (λ (t : List ℕ). cell_lead ∷ t) (append_assoc (listed (opening_numbers h)) (listed more) (line_feed ∷ []))

  -- each number was one draw
  draws_in : draws (length (ranges_of h heights)) (generator_of h.generator)
      ≡ draws (length (numbers_drawn l.cells l.generator)) l.generator
  draws_in =
      let L = length (ranges_of h heights) in
      let long : 4 + L ≡ length (numbers_drawn l.cells l.generator) =
      omega (arith, ap length numbers_in_lem, length-drawn (ranges_of h heights) (generator_of h.generator)) in
      ap (draws L) d.generator ∙ sym (draws-add 4 L l.generator) ∙ ap (λ (k : ℕ). draws k l.generator) long

  -- the load with this cell
  cell-stands : {p : Progress} (r : Progress) → ProgressOf l p
      → generator_of r.cursor.generator ≡ draws (length (ranges_of h heights)) (generator_of h.generator)
      → r.tally ≡ tally_with p.tally h.row h.given
      → ProgressOf (with_numbers l (numbers_drawn l.cells l.generator)) r
  unfolding cell_of numbers_drawn
  cell-stands r st g t = record {
    generator = g ∙ draws_in;
    tally = rw (t, d.row, d.given) (tallies-more st.tally (cell_of false (numbers_drawn l.cells l.generator)));
  }

-- ---- one cell more, from what its parts leave

module _ {p : Progress} {before : List ℕ} (h : Opening) (heights : ℕ) (d : DrewOpening p h)
    (e : heights ≡ layout_size h.row - 1) (room : LineRoom p.cursor.at before) where
  pub opening-room : Room (opening_text h) before p.cursor.at
  opening-room = record { fits = omega (arith, room.fits, opening-long d) }

  module _ {q : ℕ} {mid : List ℕ} (w : Wrote (opening_text h) before p.cursor.at mid q) where
    pub layouts-room : FieldsRoom (length (ranges_of h heights)) q mid
    layouts-room = record {
      fits = omega (
        arith,
        room.fits,
        opening-long d,
        w.cursor,
        wrote_length w,
        layouts-few h.layouts heights h.row d.layouts e,
      );
    }

    module _ {last : List ℕ} {c : Cursor}
        (v : WroteFields (ranges_of h heights) (record { at = q; generator = h.generator }) mid last c) where
      pub feed_room : Room (line_feed ∷ []) last c.at
      feed_room = record {
        fits = omega (
          arith,
          layouts-room.fits,
          wrote_length v.bytes,
          fields-end (all-repeated (inside 0 9999) h.layouts (layout_of heights) (layout-inside heights)) v,
          room.fits,
          opening-long d,
          w.cursor,
          wrote_length w,
          layouts-few h.layouts heights h.row d.layouts e,
        );
      }

      pub cell_wrote : {end : List ℕ} {at : ℕ} {t : Tally} → Wrote (line_feed ∷ []) last c.at end at
          → t ≡ tally_with p.tally h.row h.given
          → WroteCell p before end (record { cursor = record { at = at; generator = c.generator }; tally = t })
      cell_wrote u f = record {
        bytes = λ l st. rw (line_in heights (d.of l st) e) (then w (then v.bytes u));
        stands = λ l st. cell-stands heights (d.of l st) e _ st v.generator f;
      }

-- ---- a whole load

-- a count and an output that are not refused
pub record LoadGiven (cells : ℕ) (output : List ℕ) : Type 0 where
  pub few : cells ≤ max_cells
  pub enough : load_room ≤ length output

-- a load that is not whole yet leaves room for a cell
pub load-ready : {seed n : ℕ} {p : Progress} → LoadSound seed n → n < max_cells → ProgressOf (load_of seed n) p
    → CellRoom p
load-ready {seed} {n} {p} s h st =
    let many : p.tally.count ≡ n = st.tally.count ∙ s.cells.many in
    record {
      room = record {
        count = omega arith;
        tall = omega (arith, st.tally.tall, st.tally.count, keep-few is_tall (load_of seed n).cells);
      };
      first = omega (arith, st.tally.first, s.cells.low0);
      second = omega (arith, st.tally.second, s.cells.low1);
    }

pub load-room : {seed n at : ℕ} {before end : List ℕ} → LoadSound seed n → n < max_cells → load_room ≤ length before
    → Wrote (load_of seed n).text before 0 end at → LineRoom at end
load-room s h room w = record { fits = omega (arith, s.long, w.cursor, wrote_length w) }

-- no cell yet
abbrev empty_tally : Tally
empty_tally = record { rows = 2; count = 0; tall = 0; first = 0; second = 0 }

pub begun-stands : (seed at : ℕ) (g : program.Generator) → generator_of g ≡ seeded seed
    → ProgressOf (load_of seed 0) (record { cursor = record { at = at; generator = g }; tally = empty_tally })
unfolding load_of
begun-stands seed at g e = record {
  generator = e;
  tally = record { rows = refl; count = refl; tall = refl; first = refl; second = refl };
}

pub header_wrote : (seed : ℕ) {at : ℕ} {before end : List ℕ} → Wrote load_header before 0 end at
    → Wrote (load_of seed 0).text before 0 end at
unfolding load_of
header_wrote seed w = w

-- one cell more
module _ (seed n : ℕ) {p r : Progress} {mid end : List ℕ} (w : WroteCell p mid end r)
    (st : ProgressOf (load_of seed n) p) where
  pub more_wrote : {before : List ℕ} → Wrote (load_of seed n).text before 0 mid p.cursor.at
      → Wrote (load_of seed (n + 1)).text before 0 end r.cursor.at
  unfolding load_of
  more_wrote v = rw (add-one n) (then v (w.bytes (load_of seed n) st))

  pub more-stands : ProgressOf (load_of seed (n + 1)) r
  unfolding load_of
  more-stands = rw (add-one n) (w.stands (load_of seed n) st)
