-- The numbers drawn for a cell are those of a cell line that the reader takes, after cells that leave room for it.
use Prim.Native.Nat.{ℕ, zero, suc, ◌+◌, ◌*◌, ◌-◌, ◌≤◌, ◌<◌}
use Rattle.std.specs.Prelude.{◌≡◌, refl, Bool, true, not, ◌&&◌, ◌||◌, cond, List, [], ◌∷◌, ◌++◌, take, drop, replicate, eqb}
use Rattle.std.proofs.Math.Path.{ap}
use Rattle.std.proofs.Common.{◌∙◌, arith, take_at, drop_at, le-leb, lt-ltb, ne_eqb}
use Rattle.std.proofs.Math.Bool.{false, or-true}
use Rattle.std.proofs.Math.ListN.{length, length-append}
use Rattle.std.proofs.Math.Dec.{leb, ltb}
use Rattle.definition.specs.Lists.{all, keep}
use Rattle.definition.specs.Texts.{within}
use Rattle.definition.specs.Job.{Cell, Header, is_tall, layout_size, layouts_of, layout_in_range, cell_of}
use Rattle.definition.specs.Job.{shape_in_range, has_room, rest_in_range, max_cells, max_tall, max_width, max_height, max_given}
use Rattle.definition.specs.Draws.{Generator, ◌to◌, next, drawn, draws, drawn_all}
use Rattle.definition.specs.Load.{row_range, largest_in, largest, layout_ranges, repeated, row_drawn, layouts_drawn}
use Rattle.definition.specs.Load.{numbers_drawn}
use Rattle.text_laws.specs.Numbers.{also}
use Rattle.job_laws.specs.Line.{Taken}
use Rattle.load_laws.specs.Draws.{drawn-low, drawn-high, drawn-within, inside, length-drawn, drawn_append}
use Rattle.load_laws.specs.Draws.{all-drawn, all_replicate, length_ranges, length-repeated, all-repeated}
use Rattle.load_laws.specs.Lines.{layout_fields, line_fields, printable, is-printable}
use Rattle.load_laws.specs.Sites.{Above, not_falling_lem, largest-low, largest-above, largest-below}

-- ---- each field

row-drawn : (cells : List Cell) (g : Generator) → row_drawn cells g ≤ 2
row-drawn cells g =
    let fits = drawn-high (row_range cells) (draws 1 g) (omega arith) in
    omega (arith, fits, go (ltb (length (keep is_tall cells)) max_tall))
  where
    go : (t : Bool) → cond t 2 1 ≤ 2
    go true = omega arith
    go false = omega arith

-- a tall cell only if it finds room
tall-drawn : (cells : List Cell) (g : Generator)
    → (not (eqb (row_drawn cells g) 2) || ltb (length (keep is_tall cells)) max_tall) ≡ true
tall-drawn cells g = go (ltb (length (keep is_tall cells)) max_tall)
  where
    go : (t : Bool) → (not (eqb (drawn (0 to cond t 2 1) (draws 1 g)) 2) || t) ≡ true
    go true = or-true (not (eqb (drawn (0 to 2) (draws 1 g)) 2))
    go false =
        let few : drawn (0 to 1) (draws 1 g) ≤ 1 = drawn-high (0 to 1) (draws 1 g) (omega arith) in
        rw (ne_eqb (drawn (0 to 1) (draws 1 g)) 2 (λ e. omega arith))

layouts-drawn : (g : Generator) → (1 ≤ layouts_drawn g) × (layouts_drawn g ≤ 2)
layouts-drawn g = (drawn-low (1 to 2) (draws 4 g), drawn-high (1 to 2) (draws 4 g) (omega arith))

-- a layout in range before others
layout-before : (size n w : ℕ) (heights more : List ℕ) → length heights + 1 ≡ size → within 1 max_width w ≡ true
    → all (within 1 max_height) heights ≡ true → all layout_in_range (layouts_of n size more) ≡ true
    → all layout_in_range (layouts_of (suc n) size ((w ∷ heights) ++ more)) ≡ true
unfolding layouts_of
layout-before size n w heights more long e f h =
    let head : take size ((w ∷ heights) ++ more) ≡ w ∷ heights = take_at (w ∷ heights) more size (omega arith) in
    let tail : drop size ((w ∷ heights) ++ more) ≡ more = drop_at (w ∷ heights) more size (omega arith) in
    rw (head, tail)
    (also (within 1 max_width w && all (within 1 max_height) heights) (all layout_in_range (layouts_of n size more))
    (also (within 1 max_width w) (all (within 1 max_height) heights) e f) h)

heights-drawn : (n : ℕ) (g : Generator) → all (within 1 max_height) (drawn_all (replicate n (1 to 4)) g) ≡ true
heights-drawn n g = all-drawn 1 max_height (replicate n (1 to 4)) g (all_replicate (inside 1 max_height) n (1 to 4) refl)

-- so many layouts of drawn numbers are all in range
layouts_in_range : (n row : ℕ) (g : Generator)
    → all layout_in_range (layouts_of n (layout_size row) (drawn_all (repeated n (layout_ranges row)) g)) ≡ true
unfolding layouts_of drawn_all
layouts_in_range zero row g = refl
layouts_in_range (suc n) row g =
    let rs = layout_ranges row in
    let heights = drawn_all (replicate (layout_size row - 1) (1 to 4)) (next g) in
    let more = drawn_all (repeated n rs) (draws (length rs) g) in
    ap (λ (l : List ℕ). all layout_in_range (layouts_of (suc n) (layout_size row) l)) (drawn_append rs (repeated n rs) g)
    ∙ layout-before (layout_size row) n (drawn (1 to 16) (next g)) heights more
    (omega (arith, length-drawn rs g, length_ranges row))
    (drawn-within 1 max_width (1 to 16) (next g) refl)
    (heights-drawn (layout_size row - 1) (next g))
    (layouts_in_range n row (draws (length rs) g))

-- in its rows no site so far is larger
cell-above : (cells : List Cell) (g : Generator) → Above cells (cell_of false (numbers_drawn cells g))
unfolding cell_of numbers_drawn
cell-above cells g =
    let row = row_drawn cells g in
    let low = row-drawn cells g in
    record {
      row0 = λ e. omega (arith, largest-above 0 row cells (omega arith) low e);
      row1 = λ e. omega (arith, largest-above 1 row cells (omega arith) low e);
    }

-- ---- the whole line

-- what is so of the cells so far: how many there are, and that their sites did not run away
pub record SoFar (n : ℕ) (cells : List Cell) : Type 0 where
  pub many : length cells ≡ n
  pub low0 : largest_in 0 cells ≤ 12 * n
  pub low1 : largest_in 1 cells ≤ 12 * n

module _ (n : ℕ) (cells : List Cell) (g : Generator) (few : n < max_cells) (s : SoFar n cells) where
  abbrev row : ℕ
  row = row_drawn cells g

  abbrev given : ℕ
  given = largest row cells + drawn (0 to 12) (draws 2 g)

  abbrev numbers : List ℕ
  numbers = numbers_drawn cells g

  pub given-low : given ≤ 12 * n + 12
  given-low = omega (
    arith,
    drawn-high (0 to 12) (draws 2 g) (omega arith),
    largest-below row (12 * n) cells (row-drawn cells g) s.low0 s.low1,
  )

  shape : (h : Header) → h.rows ≡ 2 → shape_in_range h numbers ≡ true
  unfolding numbers_drawn
  shape h two =
      rw two
      (also (leb row 2) (within 1 2 (layouts_drawn g)) (le-leb row 2 (row-drawn cells g))
      (drawn-within 1 2 (1 to 2) (draws 4 g) refl))

  count : length numbers ≡ 4 + layouts_drawn g * layout_size row
  unfolding numbers_drawn
  count =
      let ranges = repeated (layouts_drawn g) (layout_ranges row) in
      let long : length ranges ≡ layouts_drawn g * layout_size row =
      length-repeated (layouts_drawn g) (layout_ranges row) ∙ ap (λ (k : ℕ). layouts_drawn g * k) (length_ranges row) in
      omega (arith, length-drawn ranges (draws 4 g))

  rest : rest_in_range numbers ≡ true
  unfolding numbers_drawn rest_in_range
  rest =
      also (leb given max_given && leb (drawn (0 to 1) (draws 3 g)) 1) _
      (also (leb given max_given) (leb (drawn (0 to 1) (draws 3 g)) 1)
      (le-leb given max_given (omega (arith, given-low)))
      (le-leb (drawn (0 to 1) (draws 3 g)) 1 (drawn-high (0 to 1) (draws 3 g) (omega arith))))
      (layouts_in_range (layouts_drawn g) row (draws 4 g))

  room : has_room cells (cell_of false numbers) ≡ true
  unfolding cell_of numbers_drawn
  room =
      also (ltb (length cells) max_cells) (not (eqb row 2) || ltb (length (keep is_tall cells)) max_tall)
      (lt-ltb (length cells) max_cells (omega (arith, s.many))) (tall-drawn cells g)

  -- the reader takes the line
  pub cell-taken : (h : Header) → h.rows ≡ 2 → Taken (record { header = h; cells = cells }) false numbers
  unfolding numbers_drawn
  cell-taken h two = record {
    shape = shape h two;
    count = count;
    rest = rest;
    room = room;
    rises = not_falling_lem cells (cell_of false numbers) (cell-above cells g);
  }

  -- the cells with this one
  pub so_far : SoFar (suc n) (cells ++ (cell_of false numbers ∷ []))
  unfolding cell_of numbers_drawn
  so_far =
      let cell = cell_of false numbers in
      let mine : given ≤ 12 * suc n = omega (arith, given-low) in
      record {
        many = omega (arith, s.many, length-append cells (cell ∷ []));
        low0 = largest-low 0 (12 * suc n) cells cell (omega (arith, s.low0)) mine;
        low1 = largest-low 1 (12 * suc n) cells cell (omega (arith, s.low1)) mine;
      }

  -- its numbers, each of which can be written
  pub numbers-printable : printable numbers ≡ true
  unfolding numbers_drawn
  numbers-printable =
      also (within 0 9999 row) _ (is-printable row (omega (arith, row-drawn cells g)))
      (also (within 0 9999 given) _ (is-printable given (omega (arith, given-low)))
      (also (within 0 9999 (drawn (0 to 1) (draws 3 g))) _ (drawn-within 0 9999 (0 to 1) (draws 3 g) refl)
      (also (within 0 9999 (layouts_drawn g)) _ (drawn-within 0 9999 (1 to 2) (draws 4 g) refl)
      (all-drawn 0 9999 (repeated (layouts_drawn g) (layout_ranges row)) (draws 4 g)
      (all-repeated (inside 0 9999) (layouts_drawn g) (layout_ranges row)
      (all_replicate (inside 0 9999) (layout_size row - 1) (1 to 4) refl))))))

  pub numbers-some : 4 ≤ length numbers
  numbers-some = omega (arith, count)

  pub numbers-few : length numbers ≤ line_fields
  numbers-few = omega (arith, count, go (eqb row 2))
    where
      go : (t : Bool) → layouts_drawn g * cond t 9 5 ≤ layout_fields
      go true = omega (arith, (layouts-drawn g).1)
      go false = omega (arith, (layouts-drawn g).1)
