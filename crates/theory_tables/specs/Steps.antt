-- The search as tables of numbers: what a program computes, by positions, pose numbers and states
-- (place of the last cell in the window, marks).
-- A number below B is a cost; B says that there is no way. Matched.antt says
-- which row of the pair theory a deck stands for.
use Rattle.std.specs.Prelude.{ℕ, zero, suc, ◌+◌, ◌-◌, ◌*◌, ◌^◌, min, Bool, not, ◌&&◌, ◌||◌, cond, List, map, length, get_or, leb, ltb, eqb}
use Rattle.lists.specs.Numbers.{from}
use Rattle.theory_row.specs.Marks.{bit}
use Rattle.theory_row.specs.Window.{start}
use Rattle.theory_pair.specs.Forward.{each}
use Rattle.theory_pair.specs.Pick.{pick, good_marks}
use Rattle.theory_pair.specs.Coded.{lowest}

abbrev pub B : ℕ
B = 268435456

-- the places for pose numbers: a position or a state and a pose are one number, the first times so many plus the pose
abbrev pub pose_slots : ℕ
pose_slots = 64

-- A row as the search reads it, by positions in file order and pose numbers.
pub record Deck : Type 0 where
  pub size : ℕ
  -- how many pose numbers there are
  pub poses : ℕ
  -- what a cell costs in a pose in this row; B where the pose is not offered
  pub own : ℕ → ℕ → ℕ
  -- what two neighbours pay, position and pose of the left one, then of the right one; B where they may not stand so
  pub toll : ℕ → ℕ → ℕ → ℕ → ℕ
  pub tall : ℕ → Bool
  -- what a cell pays as the first of its row in a pose, and as the last: B where it may not stand there
  pub front : ℕ → ℕ → ℕ
  pub back : ℕ → ℕ → ℕ

-- ---- states

-- the cell placed last can be the one at digit d of the marks: its digit is set, and it is the top one if that is set
abbrev pub may_be_last : ℕ → ℕ → ℕ → Bool
may_be_last R m d = eqb (bit m d) 1 && (eqb (bit m (2 * R)) 0 || eqb d (2 * R))

-- all states of a digit and marks after a cell is placed
unfoldable pub pairs_of : ℕ → List (ℕ × ℕ)
pairs_of R = each (good_marks R) λ m. map (λ d. (d, m)) (pick (may_be_last R m) (from 0 (suc (2 * R))))

abbrev pub state_count : ℕ → ℕ
state_count R = length (pairs_of R)

abbrev pub offset : ℕ → ℕ → ℕ
offset R q = (get_or (pairs_of R) q (0, 0)).0

abbrev pub marks : ℕ → ℕ → ℕ
marks R q = (get_or (pairs_of R) q (0, 0)).1

-- the only marks from which placing the cell at digit d leads to marks m
abbrev pub marks_before : ℕ → ℕ → ℕ
marks_before d m = 2 * (m - 2 ^ d) + 1

abbrev pub before : ℕ → ℕ → ℕ
before R q = marks_before (offset R q) (marks R q)

-- with i cells placed, the last of them that of state q: its position, and whether the row has it
abbrev pub last_at : ℕ → ℕ → ℕ → ℕ
last_at R i q = i + offset R q - suc R

abbrev pub is_there : Deck → ℕ → ℕ → ℕ → Bool
is_there D R i q = leb (suc R) (i + offset R q) && ltb (last_at R i q) D.size

-- ---- layers: for each state and pose number, the least cost of i cells

abbrev pub Layer : Type 0
Layer = ℕ → ℕ → ℕ

module _ (D : Deck) (R : ℕ) where
  -- state q of the layer with i cells is a source of state q' of the next: the row has
  -- its cell, which is single, and the marks fit
  abbrev pub is_source : ℕ → ℕ → ℕ → Bool
  is_source i q' q = is_there D R i q && (not (D.tall (last_at R i q)) && eqb (marks R q) (before R q'))

  -- by way of state q, to position k in pose a
  unfoldable pub via : Layer → ℕ → ℕ → ℕ → ℕ → ℕ
  via f i q k a = lowest B (λ b. f q b + D.toll (last_at R i q) b k a) (from 0 D.poses)

  -- by way of any source
  unfoldable pub reached : Layer → ℕ → Layer
  reached f i q' a =
      lowest B (λ q. cond (is_source i q' q) (via f i q (last_at R (suc i) q') a) B) (from 0 (state_count R))

  -- the layer with one cell more than f, which has i
  unfoldable pub next_layer : Layer → ℕ → Layer
  next_layer f i q a = cond (is_there D R (suc i) q) (min (D.own (last_at R (suc i) q) a + reached f i q a) B) B

  -- the first layer of a segment: one cell after the cell at position p in pose l,
  -- which is the last of i placed, with marks m
  unfoldable pub first_after : ℕ → ℕ → ℕ → ℕ → Layer
  first_after i m p l q a =
      cond (is_there D R (suc i) q && eqb m (before R q))
      (min (D.own (last_at R (suc i) q) a + D.toll p l (last_at R (suc i) q) a) B) B

  -- the first layer of a row
  unfoldable pub first_open : Layer
  first_open q a = cond (is_there D R 1 q && eqb (start R) (before R q))
      (min (D.own (last_at R 1 q) a + D.front (last_at R 1 q) a) B) B

  -- j layers on from the layer f, which has i cells
  unfoldable pub layers : Layer → ℕ → ℕ → Layer
  layers f i zero = f
  layers f i (suc j) = next_layer (layers f i j) (i + j)

  -- the cost of a segment, whose first layer f has i cells, to the tall cell at position p as state q in pose a
  unfoldable pub cost_to : Layer → ℕ → ℕ → Layer
  cost_to f i p q a = cond (leb (i + offset R q) (p + suc R)) (layers f i (p + suc R - offset R q - i) q a) B

  -- the least of a layer with all cells placed, the last of them single, and what that one pays as the last
  unfoldable pub ends : Layer → ℕ
  ends f =
      lowest B (λ q. cond (is_there D R D.size q && not (D.tall (last_at R D.size q)))
      (lowest B (λ a. f q a + D.back (last_at R D.size q) a) (from 0 D.poses)) B) (from 0 (state_count R))

  -- the cost of a segment to the row's end; e if the segment starts there
  unfoldable pub cost_end : Layer → ℕ → ℕ → ℕ
  cost_end f i e = cond (leb i D.size) (ends (layers f i (D.size - i))) (cond (eqb i (suc D.size)) e B)

-- ---- cases: for each state in row 0, state in row 1 and pose number of a tall cell, the least cost up to it

abbrev pub Cases : Type 0
Cases = ℕ → ℕ → ℕ → ℕ

-- the costs of a stage in one row: start state, start pose, state and pose at the end
abbrev pub SegmentCosts : Type 0
SegmentCosts = ℕ → ℕ → ℕ → ℕ → ℕ

-- by way of the states s and t and any pose
unfoldable pub join_pose : ℕ → Cases → SegmentCosts → SegmentCosts → ℕ → ℕ → ℕ → ℕ → ℕ → ℕ
join_pose poses f x₀ x₁ s t q₀ q₁ a = lowest B (λ l. f s t l + (x₀ s l q₀ a + x₁ t l q₁ a)) (from 0 poses)

unfoldable pub next_cases : ℕ → ℕ → Cases → SegmentCosts → SegmentCosts → Cases
next_cases count poses f x₀ x₁ q₀ q₁ a =
    lowest B (λ s. lowest B (λ t. join_pose poses f x₀ x₁ s t q₀ q₁ a) (from 0 count)) (from 0 count)
