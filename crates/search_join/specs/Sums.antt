-- The sums of a state of row 0 in a pose, in an array beside the store: for each state t of row 1 and each lane the
-- least over the start states of row 0. A case is the least of them with the costs of row 1.
use Rattle.std.specs.Prelude.{ℕ, ◌+◌, ◌*◌, ◌≤◌, ◌<◌, min, ◌≡◌, Bool, false, List, length, get_or}
use Rattle.search_store.specs.Map.{state_block, Pages, max_lanes, max_poses}
use Rattle.lists.specs.Numbers.{from}
use Rattle.theory_pair.specs.Coded.{lowest}
use Rattle.theory_tables.specs.Steps.{B}
use Rattle.search_lanes.specs.Store.{Low, said}
use Rattle.search_join.specs.declared.Case.{Case}
use Rattle.search_join.specs.declared.sums.Join.{Join}
use Rattle.search_join.specs.Tables.{cases_in, costs_in, Table, CaseFits, WayIn, next_in, CasesMade}

-- from start state s to state q₀ in pose a, in lane l of case (s, t)
unfoldable pub start_sum : ℕ → List ℕ → ℕ → ℕ → ℕ → ℕ → ℕ → ℕ
start_sum I st q₀ a t l s = cases_in st I s t l + costs_in st 0 s l q₀ a

-- the words of two rows of the store in a lane; and no more than B
abbrev pub word_sum : List ℕ → ℕ → ℕ → ℕ → ℕ
word_sum st at p₀ l = get_or st (at + l) 0 + get_or st (p₀ + l) 0

abbrev pub capped_sum : List ℕ → ℕ → ℕ → ℕ → ℕ
capped_sum st at p₀ l = min (word_sum st at p₀ l) B

-- ---- the array of the sums

-- a row of lanes for each of twelve states, then a flag for each of these rows
abbrev pub sum_flags : ℕ
sum_flags = 768

abbrev pub sum_words : ℕ
sum_words = 780

-- what the row of state t says in lane l
abbrev pub sum_in : List ℕ → ℕ → ℕ → ℕ
sum_in sums t l = said (get_or sums (sum_flags + t) 0) (get_or sums (t * max_lanes + l) 0)

-- room for the sums
pub record SumsRoom (sums : List ℕ) : Type 0 where
  pub long : length sums ≡ sum_words
  pub low : Low sums

-- so many of the rows have the flag 0; all sums are NONE
abbrev pub NoFlags : ℕ → List ℕ → Type 0
NoFlags starts sums = (t : ℕ) → t < starts → get_or sums (sum_flags + t) 0 ≡ 0

abbrev pub Nones : ℕ → ℕ → List ℕ → Type 0
Nones starts lanes sums = (t l : ℕ) → t < starts → l < lanes → sum_in sums t l ≡ B

-- the row of state t is lowered to f's, what the others say is as it was
pub record WaysAdded (f : ℕ → ℕ) (t lanes : ℕ) (old new : List ℕ) : Type 0 where
  pub room : SumsRoom new
  pub done : (l : ℕ) → l < lanes → sum_in new t l ≡ min (sum_in old t l) (f l)
  pub rest : (u l : ℕ) → (u ≡ t → ⊥) → u < 12 → l < lanes → sum_in new u l ≡ sum_in old u l

-- the sums of the states t below k are the least over the start states up to s, the others over those before s
pub record Sums (j : Join) (st : List ℕ) (q₀ a s k : ℕ) (sums : List ℕ) : Type 0 where
  pub room : SumsRoom sums
  pub up_to : (t l : ℕ) → t < j.starts → l < j.lanes → t < k
      → sum_in sums t l ≡ lowest B (start_sum j.i st q₀ a t l) (from 0 (s + 1))
  pub before : (t l : ℕ) → t < j.starts → l < j.lanes → k ≤ t
      → sum_in sums t l ≡ lowest B (start_sum j.i st q₀ a t l) (from 0 s)

-- all of them, and whether there can be any way at all
pub record AllSummed (j : Join) (st : List ℕ) (q₀ a : ℕ) (sums : List ℕ) (live : Bool) : Type 0 where
  pub all : Sums j st q₀ a j.starts 0 sums
  pub dead : live ≡ false → Nones j.starts j.lanes sums

-- ---- a case from the sums

-- the words of a row of sums at `at` and of the costs of row 1 at p₁, in a lane
unfoldable pub lane_sum : List ℕ → ℕ → List ℕ → ℕ → ℕ → ℕ
lane_sum sums at st p₁ l = get_or sums (at + l) 0 + get_or st (p₁ + l) 0

-- by state t of row 1 to state q₁ in pose a, in lane l; and the least over the lanes
unfoldable pub end_lane : List ℕ → List ℕ → ℕ → ℕ → ℕ → ℕ → ℕ
end_lane sums st q₁ a t l = sum_in sums t l + costs_in st 1 t l q₁ a

unfoldable pub end_sum : ℕ → List ℕ → List ℕ → ℕ → ℕ → ℕ → ℕ
end_sum lanes sums st q₁ a t = lowest B (end_lane sums st q₁ a t) (from 0 lanes)

-- lane l of state t has the cost v, and its row of sums says its words
pub record LaneMet (j : Join) (st sums : List ℕ) (q₁ a v t l : ℕ) : Type 0 where
  pub inside : l < j.lanes
  pub sum : v ≡ sum_in sums t l + costs_in st 1 t l q₁ a
  pub word : sum_in sums t l ≡ get_or sums (t * max_lanes + l) 0

-- the least of all ways to a case, and one of them
abbrev pub least_to : Join → List ℕ → Case → ℕ
least_to j st case = next_in j.starts j.lanes j.i st case.q0 case.q1 case.pose

abbrev pub WayTo : Join → List ℕ → Case → ℕ → ℕ → Type 0
WayTo j st case = WayIn j.starts j.lanes j.i st case.q0 case.q1 case.pose

-- ---- the rows of cases that have a case

-- twelve words for each start state
abbrev pub common_words : ℕ
common_words = 144

-- a word for each row of cases, at most each of its lanes
pub record Commons (j : Join) (st commons : List ℕ) : Type 0 where
  pub long : length commons ≡ common_words
  pub below : (s t l : ℕ) → s < j.starts → t < j.starts → l < j.lanes
      → get_or commons (s * 12 + t) 0 ≤ cases_in st j.i s t l

-- ---- what is given

-- the table that is joined
abbrev pub JoinTable : Join → List ℕ → Type 0
JoinTable j st = Table j.starts j.lanes j.i st

-- the same, with words that are at most the lanes; and a start state
pub record CommonsGiven (j : Join) (st commons : List ℕ) : Type 0 where
  pub table : JoinTable j st
  pub common : Commons j st commons

pub record CommonsFrom (j : Join) (s : ℕ) (st commons : List ℕ) : Type 0 where
  pub given : CommonsGiven j st commons
  pub start : s < j.starts

-- a row of sums at `to`, and two rows of the store
pub record RowSums (sums : List ℕ) (to : ℕ) (st : List ℕ) (at p₀ lanes : ℕ) : Type 0 where
  pub room : SumsRoom sums
  pub low : Low st
  pub inside : to + lanes ≤ sum_flags
  pub cases : at + lanes ≤ length st
  pub costs : p₀ + lanes ≤ length st

-- the same of the row of state t
pub record WaySums (sums : List ℕ) (t : ℕ) (st : List ℕ) (at p₀ lanes : ℕ) : Type 0 where
  pub row : RowSums sums (t * max_lanes) st at p₀ lanes
  pub state : t < 12
  pub narrow : lanes ≤ max_lanes

-- the table and a state of row 0 or of row 1 in a pose
pub record Summing (j : Join) (st : List ℕ) (q a : ℕ) : Type 0 where
  pub table : JoinTable j st
  pub state : q < 12
  pub pose : a < max_poses

-- the same, whose sums are wanted, and the array that they are to be put in
pub record SumsGiven (j : Join) (st commons : List ℕ) (q₀ a : ℕ) (sums : List ℕ) : Type 0 where
  pub given : Summing j st q₀ a
  pub common : Commons j st commons
  pub room : SumsRoom sums

-- the same, with the sums before start state s
pub record SumsFrom (j : Join) (st commons : List ℕ) (q₀ a s : ℕ) (sums : List ℕ) : Type 0 where
  pub given : Summing j st q₀ a
  pub common : Commons j st commons
  pub start : s < j.starts
  pub before : Sums j st q₀ a s 0 sums

-- the sums of so many states
pub record SumsFlags (sums : List ℕ) (starts : ℕ) : Type 0 where
  pub room : SumsRoom sums
  pub states : starts ≤ 12

-- a state's words, of which a pose and a lane are wanted
pub record SaidGiven (st : List ℕ) (at a l : ℕ) : Type 0 where
  pub room : at + state_block ≤ length st
  pub pose : a < max_poses
  pub inside : l < max_lanes

-- the sums in one lane, with state t of row 1
pub record StartSums (j : Join) (st : List ℕ) (q₀ a t lane : ℕ) : Type 0 where
  pub given : Summing j st q₀ a
  pub other : t < j.starts
  pub inside : lane < max_lanes

-- the sums at `at`, and the costs of row 1 at p₁
pub record LaneSums (sums : List ℕ) (at : ℕ) (st : List ℕ) (p₁ lanes : ℕ) : Type 0 where
  pub room : SumsRoom sums
  pub low : Low st
  pub inside : at + lanes ≤ sum_flags
  pub costs : p₁ + lanes ≤ length st

-- the sums, with a state of row 1 in a pose; and one of the states t
pub record EndsGiven (j : Join) (st : List ℕ) (q₁ a : ℕ) (sums : List ℕ) : Type 0 where
  pub given : Summing j st q₁ a
  pub room : SumsRoom sums

pub record EndGiven (j : Join) (st : List ℕ) (q₁ a t : ℕ) (sums : List ℕ) : Type 0 where
  pub ends : EndsGiven j st q₁ a sums
  pub state : t < j.starts

-- the sums of a case
pub record Joining (j : Join) (st sums : List ℕ) (live : Bool) (case : Case) : Type 0 where
  pub table : JoinTable j st
  pub summed : AllSummed j st case.q0 case.pose sums live
  pub fits : CaseFits case

-- the same, and its page in the store
pub record CaseToPut (j : Join) (st sums : List ℕ) (live : Bool) (case : Case) : Type 0 where
  pub joining : Joining j st sums live case
  pub pages : Pages (case.q0 + 1) st

-- its least value, by state t of row 1
pub record Pointing (j : Join) (st sums : List ℕ) (case : Case) (t value : ℕ) : Type 0 where
  pub table : JoinTable j st
  pub summed : Sums j st case.q0 case.pose j.starts 0 sums
  pub fits : CaseFits case
  pub state : t < j.starts
  pub met : end_sum j.lanes sums st case.q1 case.pose t ≡ value
  pub below : value < B

-- room for the cases of a state of row 0 with `ends` states of row 1 in so many poses
pub record CaseRoom (j : Join) (q₀ ends poses : ℕ) (st sums commons : List ℕ) : Type 0 where
  pub table : JoinTable j st
  pub common : Commons j st commons
  pub room : SumsRoom sums
  pub pages : Pages (q₀ + 1) st
  pub state : q₀ < 12
  pub few : ends ≤ 12
  pub offered : poses ≤ max_poses

-- ---- what is left

-- the cases P
abbrev pub Made : Join → (ℕ → ℕ → ℕ → Type 0) → List ℕ → List ℕ → Type 0
Made j P old new = CasesMade j.starts j.lanes j.i P old new

-- the same, and room for the sums of the next ones
pub record PartMade (j : Join) (P : ℕ → ℕ → ℕ → Type 0) (old new sums : List ℕ) : Type 0 where
  pub part : Made j P old new
  pub room : SumsRoom sums
