-- The lent store as a list of words: which words a call may change, and what is written.
use Rattle.std.specs.Prelude.{ℕ, suc, ◌+◌, ◌*◌, ◌≤◌, ◌<◌, ◌≡◌, ◌⊎◌, cond, List, length, get_or, eqb}
use Rattle.search_store.specs.Map.{layer_block, state_block, flags_from, max_lanes, max_poses}
use Rattle.theory_tables.specs.Steps.{B, Layer}

-- the words from a to b may be other ones, and nothing else is
pub record Frame (a b : ℕ) (old new : List ℕ) : Type 0 where
  pub long : length new ≡ length old
  pub low : (k : ℕ) → k < a → get_or new k 0 ≡ get_or old k 0
  pub high : (k : ℕ) → b ≤ k → get_or new k 0 ≡ get_or old k 0

-- no word is over B, so that sums of a few words fit
pub record Low (st : List ℕ) : Type 0 where
  pub word : (k : ℕ) → get_or st k 0 ≤ B

-- so many words from `at` on stand in the store, and none of its words is over B
pub record StoreWords (st : List ℕ) (at count : ℕ) : Type 0 where
  pub room : at + count ≤ length st
  pub low : Low st

-- so many rows of lanes from `at` on stand in it, of which the first lanes are in use
pub record StoreRows (st : List ℕ) (at rows lanes : ℕ) : Type 0 where
  pub room : at + rows * max_lanes ≤ length st
  pub narrow : lanes ≤ max_lanes
  pub low : Low st

-- the same, with a word that is to stand in all of them, or words below them that are to stand there
pub record WordsToFill (st : List ℕ) (at count x : ℕ) : Type 0 where
  pub words : StoreWords st at count
  pub word : x ≤ B

pub record WordsToCopy (st : List ℕ) (from at count : ℕ) : Type 0 where
  pub words : StoreWords st at count
  pub apart : from + count ≤ at

pub record RowsToFill (st : List ℕ) (at rows lanes x : ℕ) : Type 0 where
  pub words : StoreRows st at rows lanes
  pub word : x ≤ B

-- a state's rows, of so many poses, that are to be copied from another state, whose words end before them
pub record StateToCopy (st : List ℕ) (from at poses lanes : ℕ) : Type 0 where
  pub room : at + state_block ≤ length st
  pub narrow : lanes ≤ max_lanes
  pub few : poses ≤ max_poses
  pub low : Low st
  pub apart : from + state_block ≤ at

-- the same of pose a alone
pub record RowToCopy (st : List ℕ) (from at a lanes : ℕ) : Type 0 where
  pub state : StateToCopy st from at (suc a) lanes

-- two words below 2^31
pub record SignedWords (x y : ℕ) : Type 0 where
  pub first : x ≤ B + B
  pub second : y ≤ B + B

-- the words from `at` on, so many of them, are f's; nothing else changed
pub record Written (f : ℕ → ℕ) (at count : ℕ) (old new : List ℕ) : Type 0 where
  pub frame : Frame at (at + count) old new
  pub words : (k : ℕ) → k < count → get_or new (at + k) 0 ≡ f k
  pub low : Low new

-- the first lanes of so many rows from `at` on are f's; nothing outside these rows changed
pub record WrittenRows (f : ℕ → ℕ → ℕ) (at rows lanes : ℕ) (old new : List ℕ) : Type 0 where
  pub frame : Frame at (at + rows * max_lanes) old new
  pub words : (a l : ℕ) → a < rows → l < lanes → get_or new (at + a * max_lanes + l) 0 ≡ f a l
  pub low : Low new

-- ---- rows with flags

-- a row says its words; or B in every lane, whatever they are, if its flag is 0
unfoldable pub said : ℕ → ℕ → ℕ
said flag word = cond (eqb flag 0) B word

-- what the row of pose a says in lane l, in a state whose words begin at `at`
abbrev pub said_in : List ℕ → ℕ → ℕ → ℕ → ℕ
said_in st at a l = said (get_or st (at + flags_from + a) 0) (get_or st (at + a * max_lanes + l) 0)

-- the row of pose a says f's; nothing but its words and its flag changed
pub record RowSaid (f : ℕ → ℕ) (at a lanes : ℕ) (old new : List ℕ) : Type 0 where
  pub long : length new ≡ length old
  pub kept : (k : ℕ) → (k < at + a * max_lanes) ⊎ (at + a * max_lanes + max_lanes ≤ k) → (k ≡ at + flags_from + a → ⊥)
      → get_or new k 0 ≡ get_or old k 0
  pub words : (l : ℕ) → l < lanes → said_in new at a l ≡ f l
  pub low : Low new

-- the rows of so many poses say f's; nothing outside the state's words changed
pub record RowsSaid (f : ℕ → ℕ → ℕ) (at rows lanes : ℕ) (old new : List ℕ) : Type 0 where
  pub frame : Frame at (at + state_block) old new
  pub words : (a l : ℕ) → a < rows → l < lanes → said_in new at a l ≡ f a l
  pub low : Low new

-- the flag of a row of words that are at least x: 0 only if x is B
pub record FlagOf (x flag : ℕ) : Type 0 where
  pub small : flag ≤ 1
  pub none : flag ≡ 0 → B ≤ x

-- a state's words begin at `at`, and the row of pose a is to say x in its first lane
pub record WordToPut (st : List ℕ) (at a x : ℕ) : Type 0 where
  pub low : Low st
  pub room : at + state_block ≤ length st
  pub pose : a < max_poses
  pub word : x ≤ B

-- ---- layers

-- lane l of a layer whose block begins at `at`: state q has a row for each pose, a row
-- has a word for each lane
abbrev pub layer_in : List ℕ → ℕ → ℕ → Layer
layer_in st at l q a = said_in st (at + q * state_block) a l

-- lane by lane, the layers F are in the block at `to`: the rows below m of state q
pub record FilledState (F : ℕ → Layer) (lanes to q m : ℕ) (old new : List ℕ) : Type 0 where
  pub frame : Frame (to + q * state_block) (to + q * state_block + state_block) old new
  pub low : Low new
  pub right : (a : ℕ) → a < m → (l : ℕ) → l < lanes → layer_in new to l q a ≡ F l q a

-- the states below m, with so many poses
pub record Filled (F : ℕ → Layer) (lanes poses to m : ℕ) (old new : List ℕ) : Type 0 where
  pub frame : Frame to (to + layer_block) old new
  pub low : Low new
  pub right : (q : ℕ) → q < m → (a l : ℕ) → a < poses → l < lanes → layer_in new to l q a ≡ F l q a
