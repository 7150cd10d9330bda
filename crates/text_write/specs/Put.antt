-- A text put at a place of a buffer.
use Rattle.std.specs.Prelude.{ℕ, zero, suc, ◌+◌, ◌≤◌, ◌≡◌, List, [], ◌∷◌, length}
use Rattle.definition.specs.Outcome.{over}

-- xs over l from place at on, as far as l reaches
unfoldable pub put : List ℕ → ℕ → List ℕ → List ℕ
put l zero xs = over xs l
put [] (suc at) xs = []
put (y ∷ l) (suc at) xs = y ∷ put l at xs

-- what a writer of a text asks: the text fits into the buffer from that place on
pub record Room (text before : List ℕ) (at : ℕ) : Type 0 where
  pub fits : at + length text ≤ length before

-- what a writer of a text leaves of the buffer, and the place after the text, which it returns
pub record Wrote (text before : List ℕ) (at : ℕ) (end : List ℕ) (r : ℕ) : Type 0 where
  pub cursor : r ≡ at + length text
  pub bytes : end ≡ put before at text
