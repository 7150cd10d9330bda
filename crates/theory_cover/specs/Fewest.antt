-- The recurrence is right: no two rows in file order cover fewer sites than it says (fewest-below), and below B two
-- rows cover just so many (fewest-met).
use Prim.Native.Nat.{ℕ}
use Rattle.std.specs.Prelude.{◌≡◌}
use mathlib.Core.List.{List}
use Rattle.theory_cover.specs.FileRow.{FileRow}
use Rattle.theory_cover.specs.Covered.{RowsFrom, anew}

-- some rest of two rows covers x sites anew
pub record Coverable (L M : FileRow) (n p t q u x : ℕ) : Type 0 where
  pub first : List ℕ
  pub second : List ℕ
  pub rows : RowsFrom L M p t q u first second
  pub count : anew L M n p t q u first second ≡ x
