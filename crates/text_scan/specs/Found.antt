-- What the functions of this crate find in a text, from a byte on: a line, a number, the numbers of a line.
use Rattle.std.specs.Prelude.{ℕ, ◌+◌, ◌-◌, ◌≤◌, ◌<◌, ◌≡◌, ◌≢◌, true, false, Option, MatchOption}
use Rattle.std.specs.Prelude.{List, ◌∷◌, ◌++◌, map, length, get_or, take, drop}
use Rattle.definition.specs.Texts.{Text, line_feed, comma, lines_of, fields_of, is_digit, is_number, value}
use Rattle.definition.specs.Job.{nth}
use Rattle.text_scan.specs.declared.End.{End}
use Rattle.text_scan.specs.declared.End.TheVariants.{Comma, LineFeed}
use Rattle.text_scan.specs.declared.Number.{Number}
use Rattle.text_scan.specs.declared.Numbers.{Numbers}
use Rattle.text_scan.specs.Line.{first_line, after_line, readable}
use Rattle.text_scan.specs.Lead.{led}

-- the line from at to r
pub record LineTo (text : Text) (at r : ℕ) : Type 0 where
  pub past : at < r
  pub within : r ≤ length text
  pub line : first_line (drop at text) ≡ take (r - at) (drop at text)
  pub rest : after_line (drop at text) ≡ drop r text
  pub lines : lines_of (drop at text) ≡ first_line (drop at text) ∷ lines_of (drop r text)

-- ---- a number

-- the byte that ends it
abbrev pub byte_of : End → ℕ
byte_of Comma = comma
byte_of LineFeed = line_feed

-- a byte that ends none
pub record NoEnd (b : ℕ) : Type 0 where
  pub comma : b ≢ comma
  pub line_feed : b ≢ line_feed

-- The byte at i may be one more digit of the number that begins at from: there are four at most, and a first zero
-- stands alone.
pub record MoreDigit (text : Text) (from i : ℕ) : Type 0 where
  pub digit : is_digit (get_or text i 0) ≡ true
  pub few : i < from + 4
  pub lead : from < i → get_or text from 0 ≢ 48

-- A number and the byte that ends it, a comma or a line feed.
pub record NumberTo (text : Text) (from : ℕ) (r : Number) : Type 0 where
  pub past : from < r.next
  pub within : r.next ≤ length text
  pub field : Text
  pub split : drop from text ≡ field ++ byte_of r.end ∷ drop r.next text
  pub number : is_number field ≡ true
  pub value : r.value ≡ value field
  pub small : r.value ≤ 9999

-- If no number ends there, the rest of the line is no good.
abbrev pub NumberFrom : Text → ℕ → Option Number → Type 0
NumberFrom text from r = MatchOption r (readable (drop from text) ≡ false) (λ n. NumberTo text from n)

-- ---- the numbers of a line

-- These fields of the line from at on, as numbers: all are counted, and 24 of them kept.
pub record Found (text : Text) (at : ℕ) (fields : List Text) (r : Numbers) : Type 0 where
  pub past : at < r.next
  pub within : r.next ≤ length text
  pub rest : after_line (drop at text) ≡ drop r.next text
  pub count : r.count ≡ length fields
  pub values : (k : ℕ) → k < 24 → get_or r.values k 0 ≡ nth (map value fields) k
  pub small : (k : ℕ) → get_or r.values k 0 ≤ 9999

-- the line from at on ends, and its fields are these numbers
pub record NumbersTo (text : Text) (at : ℕ) (r : Numbers) : Type 0 where
  pub ok : readable (drop at text) ≡ true
  pub found : Found text at (fields_of (first_line (drop at text))) r

abbrev pub NumbersFrom : Text → ℕ → Option Numbers → Type 0
NumbersFrom text at r = MatchOption r (readable (drop at text) ≡ false) (λ n. NumbersTo text at n)

-- a byte of the text, and a lead, which is no comma, that a line may have from there on
pub record MayLead (text : Text) (at lead : ℕ) : Type 0 where
  pub there : at < length text
  pub high : comma < lead

-- the line from at on is led, and these are the numbers after its lead
pub record LedTo (lead : ℕ) (text : Text) (at : ℕ) (r : Numbers) : Type 0 where
  pub ok : led lead (drop at text) ≡ true
  pub found : Found text at (drop 1 (fields_of (first_line (drop at text)))) r

-- the numbers after a lead and its comma
abbrev pub LedFrom : ℕ → Text → ℕ → Option Numbers → Type 0
LedFrom lead text at r = MatchOption r (led lead (drop at text) ≡ false) (λ n. LedTo lead text at n)
