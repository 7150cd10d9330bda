-- A job of document 01 as a job of the pair's theory, where what a cell is offered is a list of poses: those that rules
-- 1 to 3 allow it, by their numbers. A cell's own cost and what neighbours pay are the terms of the cost. Definitions;
-- crate `theory_bridge` proves that they say the same.
use Rattle.std.specs.Prelude.{ℕ, zero, suc, ◌+◌, ◌-◌, ◌*◌, ◌/◌, ◌%◌, Bool, not, ◌&&◌, cond, List, [], ◌∷◌, map, length, get_or, leb, eqb}
use Rattle.definition.specs.Lists.{sum}
use Rattle.definition.specs.Job.{Layout, Job}
use Rattle.definition.specs.Placement.{Pose}
use Rattle.definition.specs.Rules.{no_layout, cell_at, apart, is_forbidden, offer_at, choice_offered, site_offered}
use Rattle.definition.specs.Cost.{charge, first_height}
use Rattle.lists.specs.Numbers.{from}
use Rattle.theory_pair.specs.Pick.{pick}
use Rattle.theory_pair.specs.Cells.{Side, row₀, row₁, Kind, one, both, PairJob}

-- row 0 or 1, or 2 for a tall cell
abbrev pub kind_of : ℕ → Kind
kind_of zero = one row₀
kind_of (suc zero) = one row₁
kind_of (suc (suc n)) = both

abbrev pub row_of : Side → ℕ
row_of row₀ = 0
row_of row₁ = 1

abbrev pub site_of : Pose → ℕ
site_of p = p.site

-- ---- what cell k is offered

abbrev pub layout_of : Job → ℕ → Pose → Layout
layout_of j k p = get_or (cell_at j k).layouts p.layout no_layout

unfoldable pub width_of : Job → ℕ → Pose → ℕ
width_of j k p = (layout_of j k p).width

-- how many pose numbers a cell needs at most: the sites from given - D to given + D, two layouts at each, two marks for
-- each
abbrev pub pose_numbers : Job → ℕ
pose_numbers j = 4 * (2 * j.header.displacement + 1)

-- pose number a of cell k: its sites are counted from the first that it is offered, so that a fixed cell has just
-- number 0
unfoldable pub pose_number : Job → ℕ → ℕ → Pose
pose_number j k a =
    record { site = (cell_at j k).given + a / 4 - (offer_at j k).limit; layout = a % 4 / 2; mark = a % 2 }

-- its site is not left of site 0; rules 1 and 3, by what cell k is offered; rule 2
unfoldable pub is_offered : Job → ℕ → ℕ → Bool
is_offered j k a =
    leb (offer_at j k).limit ((cell_at j k).given + a / 4)
    && choice_offered (offer_at j k) (pose_number j k a)
    && site_offered (offer_at j k) (pose_number j k a)
    && leb ((pose_number j k a).site + width_of j k (pose_number j k a)) j.header.sites

unfoldable pub offers_of : Job → ℕ → List Pose
offers_of j k = map (pose_number j k) (pick (is_offered j k) (from 0 (pose_numbers j)))

-- ---- what the row's ends allow

-- how many sites may be empty between a row's end and the cell nearest to it: any number but one (rule 8)
unfoldable pub end_allowed : ℕ → Bool
end_allowed gap = not (is_forbidden gap)

-- cell k may be the first of its rows, and the last
abbrev pub opens_of : Job → ℕ → Pose → Bool
opens_of j k p = end_allowed p.site

abbrev pub closes_of : Job → ℕ → Pose → Bool
closes_of j k p = end_allowed (j.header.sites - (p.site + width_of j k p))

-- ---- what it costs

-- shift, mirroring and layout of cell k
unfoldable pub own_of : Job → ℕ → Pose → ℕ
own_of j k p =
    j.header.shift_weight * apart p.site (cell_at j k).given
    + j.header.mirror_weight * cond (eqb p.mark 1) 1 0
    + j.header.swap_weight * cond (eqb p.layout 1) 1 0

-- the P (0) or N (1) height at cell k's left edge, and at its right edge
abbrev pub left_of : Job → ℕ → ℕ → Pose → ℕ → ℕ
left_of j row k p type = get_or (layout_of j k p).heights (first_height j row k + cond (eqb p.mark 1) 2 0 + type) 0

abbrev pub right_of : Job → ℕ → ℕ → Pose → ℕ → ℕ
right_of j row k p type = get_or (layout_of j k p).heights (first_height j row k + cond (eqb p.mark 1) 0 2 + type) 0

-- the pairs of heights that differ between neighbours
unfoldable pub differing_of : Job → ℕ → ℕ × Pose → ℕ × Pose → ℕ
differing_of j row x y =
    sum (λ type. cond (eqb (right_of j row x.0 x.1 type) (left_of j row y.0 y.1 type)) 0 1) (0 ∷ 1 ∷ [])

-- what weighs a step by its gap: those at gap 0 are not filled
abbrev pub weight_at : Job → ℕ → ℕ
weight_at j gap = cond (eqb gap 0) j.header.step_weight j.header.filled_weight

-- the empty sites between neighbours
abbrev pub gap_of : Job → ℕ × Pose → ℕ × Pose → ℕ
gap_of j x y = y.1.site - (x.1.site + width_of j x.0 x.1)

-- the steps between neighbours, at their weight
unfoldable pub pay_of : Job → Side → ℕ × Pose → ℕ × Pose → ℕ
pay_of j s x y = weight_at j (gap_of j x y) * (charge (gap_of j x y) * differing_of j (row_of s) x y)

abbrev pub pair_job : Job → PairJob Pose
pair_job j = record {
  count = length j.cells;
  kind = λ k. kind_of (cell_at j k).row;
  offers = offers_of j;
  wide = width_of j;
  own = own_of j;
  pay = pay_of j;
  opens = opens_of j;
  closes = closes_of j;
}
