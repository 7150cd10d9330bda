-- The rows of a job as lines of positions: which cell stands at a position, and where the tall cells stand.
use Rattle.std.specs.Prelude.{length}
use Prim.Native.Nat.{ℕ}
use Rattle.theory_row.specs.Order.{place}
use Rattle.theory_pair.specs.Segment.{Line}
use Rattle.theory_pair.specs.Legal.{members, tall_cells}
use Rattle.theory_pair.specs.Legal.{Side, PairJob, is_tall, own_in}
use Rattle.theory_pair.specs.Members.{at}

module _ {A : Type 0} (J : PairJob A) where
  abbrev pub cell : Side → ℕ → ℕ
  cell s p = at (members J s) p

  -- a row by positions
  abbrev pub line : Side → Line A
  line s = record {
    size = length (members J s);
    options = λ p. J.offers (cell s p);
    wide = λ p a. J.wide (cell s p) a;
    own = λ p a. own_in s (J.kind (cell s p)) (J.own (cell s p) a);
    pay = λ x y. J.pay s (cell s x.0, x.1) (cell s y.0, y.1);
    tall = λ p. is_tall (J.kind (cell s p));
    opens = λ p a. J.opens (cell s p) a;
    closes = λ p a. J.closes (cell s p) a;
  }

  -- how many tall cells; where the I-th stands in a row
  abbrev pub tall_count : ℕ
  tall_count = length (tall_cells J)

  abbrev pub pos : Side → ℕ → ℕ
  pos s I = place (at (tall_cells J) I) (members J s)
