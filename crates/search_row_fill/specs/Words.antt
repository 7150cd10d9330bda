-- The words of a cell in a row, by their places in search_row/specs/Words.antt. Nothing to believe: Matched.antt
-- proves that they stand for the state's row.
use Rattle.std.specs.Prelude.{ℕ, ◌+◌, ◌-◌, ◌*◌, ◌/◌, ◌%◌, ◌&&◌, cond, [], ◌∷◌, ltb, eqb}
use Rattle.definition.specs.Job.{Header, Cell, Job, is_tall}
use Rattle.definition.specs.Rules.{cell_at, forbidden_gap, offer_at}
use Rattle.theory_bridge.specs.Paired.{is_offered, pose_number, own_of}
use Rattle.theory_tables.specs.Steps.{B}
use Rattle.job.specs.Parts.{width_in, height_in, first_of}
use Rattle.search_row.specs.Words.{first_word, width_word, tall_word, left_p}
use Rattle.search_row.specs.Words.{touching_word, number_word, filled_word, front_barred}

-- a job of one cell: what is said of a cell of a job is said of it alone
abbrev pub alone : Header → Cell → Job
alone h c = record { header = h; cells = c ∷ [] }

-- what cell k costs in pose a in a row, B where it is not offered; a tall cell's own cost counts in row 0
unfoldable pub own_word : Job → ℕ → ℕ → ℕ → ℕ
own_word j row k a = cond (is_offered j k a) (cond (is_tall (cell_at j k) && eqb row 1) 0 (own_of j k (pose_number j k a))) B

-- the site of its pose number 0, with D added
abbrev pub first_site : Job → ℕ → ℕ
first_site j k = (cell_at j k).given + (j.header.displacement - (offer_at j k).limit)

-- that site, the widths of its layouts, whether it is tall
unfoldable pub shape_word : Job → ℕ → ℕ → ℕ
shape_word j k i = cond (eqb i first_word) (first_site j k)
    (cond (ltb i tall_word) (width_in (cell_at j k) (i - width_word)) (cond (is_tall (cell_at j k)) 1 0))

-- height u: u / 8 is 1 for the right edge, u / 4 % 2 is 1 for N, u % 4 / 2 is the layout
-- and u % 2 the mark, which exchanges the edges
abbrev pub edge : ℕ → ℕ
edge u = (u / 8 + u % 2) % 2 * 2 + u / 4 % 2

unfoldable pub height_word : Job → ℕ → ℕ → ℕ → ℕ
height_word j row k u = height_in (cell_at j k) (u % 4 / 2) (first_of (cell_at j k).row row + edge u)

-- where the first cell of a row may not stand, and where the last may not end: one site from the row's end (rule 8),
-- with D added
unfoldable pub end_word : Job → ℕ → ℕ
end_word j i =
    cond (eqb i front_barred) (j.header.displacement + forbidden_gap)
    (j.header.sites + j.header.displacement - forbidden_gap)

-- word i of cell k, which bears a number; steps at gap 0 have one weight, filled ones another (A7)
unfoldable pub cell_word : Job → ℕ → ℕ → ℕ → ℕ → ℕ
cell_word j row k number i =
    cond (ltb i first_word) (own_word j row k i)
    (cond (ltb i left_p) (shape_word j k i) (cond (ltb i touching_word) (height_word j row k (i - left_p))
    (cond (eqb i touching_word) j.header.step_weight (cond (eqb i number_word) number
    (cond (eqb i filled_word) j.header.filled_weight (end_word j i))))))
