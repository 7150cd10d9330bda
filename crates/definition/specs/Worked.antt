-- Worked cases: whole results of Score, and small facts of buffers, moves and Fault line. The values of Score's were
-- worked out from document 01 by a program apart from these definitions, the others by hand; here they are computed,
-- so that a definition that is wrong in a mark, a layout, a weight, a row, a refusal or a short array is refused in
-- this crate.
use Rattle.std.specs.Prelude.{ℕ, ◌≡◌, refl, true, false, List, [], ◌∷◌, map, ℤ, pos}
use Prim.Native.String.{String, ◌++◌}
use Rattle.std.proofs.Math.Option.{none}
use Rattle.definition.specs.Texts.{Text, bytes}
use Rattle.definition.specs.Job.{Reading, refused, accepted, read_job, max_cells, max_tall}
use Rattle.definition.specs.Gaps.{gaps_of, is_closable}
use Rattle.definition.specs.Rules.{verdict}
use Rattle.definition.specs.Moves.{left, right, change_by, alter, moved_by, after}
use Rattle.definition.specs.Outcome.{Outcome, results_of, over, buffer_refusal, place_outcome}
use Rattle.definition.specs.Outcome.{job_in, poses_in, placement_in}
use Rattle.definition.specs.FaultLine.{of_job, of_placement, part_at, fault_line}
use Rattle.definition.specs.Edges.{Case, scoring, five_sites, in_five, beside_fixed, two_ends}
use Rattle.definition.specs.Edges.{turned_by_two, turned_by_one, four_cells, as_four, filled_free}
use Rattle.definition.specs.EdgesComputed.{opened, AllComputed, ◌&◌}

-- ---- whole results of Score

abbrev pub giving : List ℤ → Outcome → Type 0
giving results o = results_of o ≡ results

-- a refusal, with its eight fields; with nine, for a text that begins with `K,` (A7)
abbrev pub refusing_at : ℕ → ℕ → Outcome → Type 0
refusing_at number line =
    giving (pos number ∷ pos line ∷ pos 0 ∷ pos 0 ∷ pos 0 ∷ pos 0 ∷ pos 0 ∷ pos 0 ∷ pos 0 ∷ pos 0 ∷ [])

abbrev pub refusing_by_nine : ℕ → ℕ → Outcome → Type 0
refusing_by_nine number line =
    giving (pos number ∷ pos line ∷ pos 0 ∷ pos 0 ∷ pos 0 ∷ pos 0 ∷ pos 0 ∷ pos 0 ∷ pos 0 ∷ pos 0 ∷ pos 0 ∷ [])

-- a broken rule and its lowest cell
abbrev pub naming : ℕ → ℕ → Outcome → Type 0
naming rule cell =
    giving (pos 0 ∷ pos 0 ∷ pos rule ∷ pos cell ∷ pos 0 ∷ pos 0 ∷ pos 0 ∷ pos 0 ∷ pos 0 ∷ pos 0 ∷ [])

-- two rows, a tall cell, all four weights
abbrev pub rich : String
rich =
    "J,2,30,7,1,1000,100,10,1\nC,0,2,1,2,3,1,2,3,4,4,5,6,7,8\nC,1,2,0,1,2,1,1,7,9\n"
    ++ "C,2,6,1,1,3,3,4,5,9,5,6,7,8\nC,0,12,1,1,2,9,3,1,1\nC,1,15,0,1,2,7,6,2,2\n"

-- a cell in row 0 and two in row 1 at one site, with R 1 and with R 0
abbrev pub row_one_cells : String
row_one_cells = "C,0,0,0,1,2,1,1,1,1\nC,1,5,0,1,2,1,1,1,1\nC,1,5,0,1,2,1,1,1,1\n"

-- one cell
abbrev pub one_cell : String
one_cell = "J,1,20,1,1,100,1,100,50\nC,0,2,1,1,4,3,3,2,2\n"

abbrev pub worked : List Case
worked =
    -- all weights, both rows, a tall cell mirrored, layout 1
    scoring rich "3,1,1\n4,0,0\n9,0,1\n12,0,0\n14,0,0\n"
    (giving (pos 0 ∷ pos 0 ∷ pos 0 ∷ pos 0 ∷ pos 5 ∷ pos 7 ∷ pos 2 ∷ pos 1 ∷ pos 5721 ∷ pos 100 ∷ []))
    -- a mark on a cell that may not be mirrored: rule 1, cell 2
    ∷ scoring rich "3,1,1\n4,0,1\n9,0,1\n12,0,0\n14,0,0\n" (naming 1 2)
    -- a layout number equal to the count
    ∷ scoring rich "3,1,1\n4,1,0\n9,0,1\n12,0,0\n14,0,0\n" (naming 1 2)
    -- an overlap in row 1 alone: rule 4, of cells 3 and 5
    ∷ scoring rich "3,1,1\n4,0,0\n9,0,1\n12,0,0\n11,0,0\n" (naming 4 3)
    -- one empty site in row 1 between cells that are exchanged: rule 5, of cells 2 and 3
    ∷ scoring ("J,2,30,7,1,1,1,1,1\n" ++ row_one_cells) "0,0,0\n8,0,0\n5,0,0\n" (naming 5 2)
    -- exchanged in row 1 with R 0: rule 6
    ∷ scoring ("J,2,30,7,0,1,1,1,1\n" ++ row_one_cells) "0,0,0\n7,0,0\n5,0,0\n" (naming 6 2)
    -- one site after the last cell of row 0, which is cell 3, and before the first of row 1: rule 8, cell 2
    ∷ scoring two_ends "0,0,0\n1,0,0\n7,0,0\n" (naming 8 2)
    -- one site on either side of a row's only cell
    ∷ scoring "J,1,4,7,1,1,1,1,1\nC,0,1,0,1,2,1,1,1,1\n" "1,0,0\n" (naming 8 1)
    -- the last line has no line feed
    ∷ scoring "J,1,20,1,1,100,1,100,50\nC,0,2,1,1,4,3,3,2,2" "" (refusing_at 1 2)
    -- a leading zero
    ∷ scoring "J,1,20,1,1,100,1,100,50\nC,0,02,1,1,4,3,3,2,2\n" "" (refusing_at 1 2)
    -- five digits
    ∷ scoring "J,1,20,1,1,100,1,100,50\nC,0,10000,1,1,4,3,3,2,2\n" "" (refusing_at 1 2)
    -- D 8
    ∷ scoring "J,1,20,8,1,100,1,100,50\n" "" (refusing_at 2 1)
    -- a given site that falls in row 1, by a tall cell
    ∷ scoring ("J,2,20,1,1,1,1,1,1\nC,1,5,0,1,2,1,1,1,1\n"
    ++ "C,0,1,0,1,2,1,1,1,1\nC,2,4,0,1,2,1,1,1,1,1,1,1,1\n") "" (refusing_at 4 4)
    -- a fixed cell's line is read as any other: a lead of two bytes, a second layout out of range, a site that falls
    ∷ scoring "J,1,20,1,1,100,1,100,50\nFC,0,2,1,1,4,3,3,2,2\n" "" (refusing_at 1 2)
    ∷ scoring "J,1,20,1,1,100,1,100,50\nF,0,2,1,2,4,3,3,2,2,65,3,3,2,2\n" "" (refusing_at 2 2)
    ∷ scoring (one_cell ++ "F,0,1,1,1,4,3,3,2,2\n") "" (refusing_at 4 3)
    -- an empty job
    ∷ scoring "" "2,0,1\n" (refusing_at 1 1)
    -- a surplus line
    ∷ scoring one_cell "2,0,0\n6,0,0\n" (refusing_at 5 2)
    -- a missing line
    ∷ scoring (one_cell ++ "C,0,2,1,1,4,3,3,2,2\n") "2,0,0\n" (refusing_at 5 2)
    -- seven numbers "For a job text that begins with `K,`, refused or not" (A7): a legal placement, a broken rule, a
    -- refusal of the header, of a cell, of the placement, of the two bytes alone
    ∷ scoring ("K,2,20,0,0,100,1,1,1,7\n" ++ four_cells) as_four
    (giving (pos 0 ∷ pos 0 ∷ pos 0 ∷ pos 0 ∷ pos 2 ∷ pos 0 ∷ pos 0 ∷ pos 0 ∷ pos 107 ∷ pos 0 ∷ pos 1 ∷ []))
    ∷ scoring filled_free "0,0,0\n3,0,0\n"
    (giving (pos 0 ∷ pos 0 ∷ pos 5 ∷ pos 1 ∷ pos 0 ∷ pos 0 ∷ pos 0 ∷ pos 0 ∷ pos 0 ∷ pos 0 ∷ pos 0 ∷ []))
    ∷ scoring "K,2,20,0,0,7,1,1,1\n" "" (refusing_by_nine 1 1)
    ∷ scoring "K,1,6,2,0,1000,1,1,1,0\nC,1,0,0,1,2,1,1,1,1\n" "" (refusing_by_nine 2 2)
    ∷ scoring filled_free "0,0,0\n" (refusing_by_nine 5 2)
    ∷ scoring "K," "" (refusing_by_nine 1 1)
    -- six for any other text
    ∷ scoring "K" "" (refusing_at 1 1)
    ∷ scoring "KJ,1,6,2,0,1000,1,1,1,0\n" "" (refusing_at 1 1)
    ∷ scoring "J,2,20,0,0,7,1,1,1,7\n" "" (refusing_at 1 1)
    ∷ []

pub worked_hold : AllComputed worked
unfolding opened ◌&◌
worked_hold =
    refl & refl & refl & refl & refl & refl & refl & refl
    & refl & refl & refl & refl & refl & refl & refl & refl
    & refl & refl & refl
    & refl & refl & refl & refl & refl & refl & refl & refl & refl & tt

-- ---- buffers, moves, limits

-- "as far as it reaches; its entries after them are untouched"
pub longer_array : over {A = ℕ} (1 ∷ 2 ∷ []) (7 ∷ 8 ∷ 9 ∷ []) ≡ (1 ∷ 2 ∷ 9 ∷ [])
unfolding over
longer_array = refl

pub shorter_array : over {A = ℕ} (1 ∷ 2 ∷ 3 ∷ []) (7 ∷ 8 ∷ []) ≡ (1 ∷ 2 ∷ [])
unfolding over
shorter_array = refl

abbrev buffers_of : Reading → ℕ → ℕ → ℕ
buffers_of (refused n line) words room = 0
buffers_of (accepted j) words room = buffer_refusal j words room

-- "Store 1,048,575 words: 6. Two cells, 17 output bytes: 7; 18 pass."
abbrev two_cells : String
two_cells = one_cell ++ "C,0,6,0,1,4,3,3,2,2\n"

pub buffers-tried :
    (buffers_of (read_job (bytes two_cells)) 1048575 17 ≡ 6)
    × (buffers_of (read_job (bytes two_cells)) 1048576 17 ≡ 7)
    × (buffers_of (read_job (bytes two_cells)) 1048576 18 ≡ 0)
unfolding opened buffer_refusal
buffers-tried = (refl, refl, refl)

-- "a job that does needs 4,194,304 words of store, and refusal 6 is tested by that figure; others keep theirs" (A6)
pub buffers-by-two :
    (buffers_of (read_job (bytes turned_by_two)) 4194303 0 ≡ 6)
    × (buffers_of (read_job (bytes turned_by_two)) 4194304 26 ≡ 7)
    × (buffers_of (read_job (bytes turned_by_two)) 4194304 27 ≡ 0)
    × (buffers_of (read_job (bytes turned_by_one)) 1048575 0 ≡ 6)
    × (buffers_of (read_job (bytes turned_by_one)) 1048576 27 ≡ 0)
unfolding opened buffer_refusal
buffers-by-two = (refl, refl, refl, refl, refl)

-- "After 8 or an answer the whole store is zero."
pub zero-after-eight : (place_outcome 6 (read_job (bytes five_sites)) 1048576 18 none).zeroed ≡ true
unfolding opened buffer_refusal place_outcome
zero-after-eight = refl

-- "A shift [..] right at site 9,999 [..] has no effect"
pub no_further : (change_by right (record { site = 9999; layout = 0; mark = 0 })).site ≡ 9999
unfolding change_by
no_further = refl

-- moves shift a fixed cell too; only where a list ends counts (A2)
abbrev on_the_way : Reading → ℕ
on_the_way (refused n line) = n
on_the_way (accepted j) = (verdict j (after j (
    record { cell = 0; change = right }
    ∷ record { cell = 1; change = left }
    ∷ record { cell = 0; change = left }
    ∷ []))).rule

pub fixed-on_the_way : on_the_way (read_job (bytes beside_fixed)) ≡ 0
unfolding opened after moved_by alter change_by
fixed-on_the_way = refl

pub limits : (max_cells ≡ 64) × (max_tall ≡ 24)
limits = (refl, refl)

-- ---- gaps

-- the gaps of row 0, its ends included, and which of them a filler closes
abbrev gaps_in : Reading → Text → List ℕ
gaps_in r placement = gaps_of (job_in r) (placement_in (poses_in r placement)) 0

pub gaps_listed :
    (gaps_in (read_job (bytes in_five)) (bytes "3,0,0\n") ≡ (3 ∷ 0 ∷ []))
    × (map is_closable (0 ∷ 1 ∷ 2 ∷ 3 ∷ []) ≡ (true ∷ false ∷ true ∷ true ∷ []))
unfolding opened
gaps_listed = (refl, refl)

-- ---- Fault line

-- a bad line of the job; a bad line of the placement; "A missing line, or no fault, gives the empty part at the
-- placement's end. A missing first job line gives the empty job text."
pub faults :
    (fault_line (bytes "J,1,20,8,1,100,1,100,50\n") (bytes "2,0,0\n") ≡ of_job 0 24)
    × (fault_line (bytes one_cell) (bytes "2,0,0\n6,0,0") ≡ of_placement 6 5)
    × (fault_line (bytes (one_cell ++ "C,0,6,0,1,4,3,3,2,2\n")) (bytes "2,0,0\n") ≡ of_placement 6 0)
    × (fault_line (bytes one_cell) (bytes "2,0,0\n") ≡ of_placement 6 0)
    × (fault_line [] (bytes "2,0,1\n") ≡ of_job 0 0)
unfolding opened fault_line part_at
faults = (refl, refl, refl, refl, refl)
