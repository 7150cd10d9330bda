-- The first line of a text and what follows it, and how they make up the lines of document 01. A line may be read where
-- it stands: its fields and its end are those of the text that begins with it.
use Rattle.std.specs.Prelude.{ℕ, ◌≡◌, refl, Bool, true, false, ◌&&◌, cond, [], ◌∷◌, eqb}
use Rattle.std.proofs.Common.{ap}
use Rattle.definition.specs.Lists.{all}
use Rattle.definition.specs.Texts.{Text, line_feed, comma, onto, lines_of, ended, fields_of, is_number}

unfoldable pub first_line : Text → Text
first_line [] = []
first_line (b ∷ bs) = cond (eqb b line_feed) (b ∷ []) (b ∷ first_line bs)

unfoldable pub after_line : Text → Text
after_line [] = []
after_line (b ∷ bs) = cond (eqb b line_feed) bs (after_line bs)

-- the first line ends, and its fields are numbers
unfoldable pub readable : Text → Bool
readable s = ended (first_line s) && all is_number (fields_of (first_line s))

pub lines-first : (b : ℕ) (bs : Text) → lines_of (b ∷ bs) ≡ first_line (b ∷ bs) ∷ lines_of (after_line (b ∷ bs))
unfolding lines_of first_line after_line
lines-first b [] = go (eqb b line_feed)
  where
    go : (t : Bool) → cond t ((b ∷ []) ∷ []) ((b ∷ []) ∷ []) ≡ cond t (b ∷ []) (b ∷ []) ∷ lines_of (cond t [] [])
    go true = refl
    go false = refl
lines-first b (c ∷ bs) = go (eqb b line_feed) (lines-first c bs)
  where
    go : (t : Bool) → lines_of (c ∷ bs) ≡ first_line (c ∷ bs) ∷ lines_of (after_line (c ∷ bs))
        → cond t ((b ∷ []) ∷ lines_of (c ∷ bs)) (onto b (lines_of (c ∷ bs)))
        ≡ cond t (b ∷ []) (b ∷ first_line (c ∷ bs)) ∷ lines_of (cond t (c ∷ bs) (after_line (c ∷ bs)))
    go true e = refl
    go false e = ap (onto b) e

pub fields-first : (s : Text) → fields_of (first_line s) ≡ fields_of s
unfolding first_line fields_of
fields-first [] = refl
fields-first (b ∷ bs) = go (eqb b line_feed) refl (fields-first bs)
  where
    go : (t : Bool) → eqb b line_feed ≡ t → fields_of (first_line bs) ≡ fields_of bs
        → fields_of (cond t (b ∷ []) (b ∷ first_line bs))
        ≡ cond t ([] ∷ []) (cond (eqb b comma) ([] ∷ fields_of bs) (onto b (fields_of bs)))
    go true e h = rw e
    go false e h = rw (e, h)

-- a byte that is no line feed belongs to the first line
pub line_on : (b : ℕ) (s : Text) → eqb b line_feed ≡ false → first_line (b ∷ s) ≡ b ∷ first_line s
unfolding first_line
line_on b s e = rw e

pub after_on : (b : ℕ) (s : Text) → eqb b line_feed ≡ false → after_line (b ∷ s) ≡ after_line s
unfolding after_line
after_on b s e = rw e

pub ended-on : (b : ℕ) (s : Text) → eqb b line_feed ≡ false → ended (b ∷ first_line s) ≡ ended (first_line s)
unfolding ended
ended-on b s e = go (first_line s)
  where
    go : (l : Text) → ended (b ∷ l) ≡ ended l
    go [] = e
    go (c ∷ l) = refl

pub after_feed : (s : Text) → after_line (line_feed ∷ s) ≡ s
unfolding after_line
after_feed s = refl
