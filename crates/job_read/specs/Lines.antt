-- The refusal of a line by its numbers in an array and by what is kept of the cells before
-- it. It is document 01's refusal of that line.
use Rattle.std.specs.Prelude.{Result, Ok, Err}
use Rattle.std.specs.Prelude.{ℕ, suc, ◌+◌, ◌*◌, ◌≤◌, ◌<◌, ◌≡◌, Bool, ◌&&◌, cond, List, [], ◌∷◌, get_or, drop, ltb, eqb}
use Rattle.std.proofs.Math.Path.{refl, ap}
use Rattle.std.proofs.Common.{sym, ◌∙◌, drop-cons}
use Rattle.std.proofs.Math.Bool.{true, false, and-eq-true_iff}
use native.Mathlib.Omega.{arith}
use Rattle.std.proofs.Math.ListN.{length, length-drop}
use Rattle.std.proofs.lemmas.List.{length-map}
use Rattle.std.proofs.Math.Dec.{leb, leb-suc-suc, eqb-suc-suc}
use borrow.Author.Tests.{ltb-true, leb-true, leb-false, eqb-true}
use Rattle.definition.specs.Lists.{all}
use Rattle.definition.specs.Texts.{Text, comma, fields_of, value, within}
use Rattle.definition.specs.Job as paper
use Rattle.job.specs.declared.Cell.{Cell}
use Rattle.job.specs.declared.Header.{Header}
use Rattle.job.specs.Value.{layouts_of, cell_of, header_of}
use Rattle.job_laws.specs.Tests.{test-passed}
use Rattle.text_scan.specs.Line.{first_line}
use Rattle.text_scan.specs.Lead.{led, formed-either, formed-other}
use Rattle.text_scan.specs.Found.{LedTo}
use Rattle.text_scan.specs.declared.Numbers.{Numbers}
use Rattle.job_ranges.specs.Values.{cell_in, header_in, listed}
use Rattle.job_ranges.specs.Made.{header-ranged, header_made, cell-made}
use Rattle.results.specs.declared.Refusal.{Refusal}
use Rattle.results.specs.declared.Refusal.TheVariants as refusal
use Rattle.job_tally.specs.declared.Tally.{Tally}
use Rattle.job_read.specs.declared.Fault.{Fault}
use Rattle.job_read.specs.declared.Fault.TheVariants.{Form, Range, Count, Order}
use Rattle.job_tally.specs.Tallies.{Tallies, room, rises, room-cells, rises-tally}

-- how many numbers follow a header's lead
abbrev pub head_count : Bool → ℕ
head_count filled = cond filled 9 8

-- the tests after the lead, of a header with so many numbers
unfoldable pub head_number : Bool → ℕ → Header → ℕ
head_number filled count h =
    paper.first_failing ((1, eqb count (head_count filled)) ∷ (2, paper.header_in_range (listed h)) ∷ [])

-- of a cell; mark is the line's number for mirrorable
unfoldable pub cell_number : Tally → ℕ → ℕ → Cell → ℕ
cell_number t count mark c = paper.first_failing (
    (1, leb 4 count)
    ∷ (2, leb c.row (cond (eqb t.rows 2) 2 0) && within 1 2 c.layouts)
    ∷ (1, eqb count (4 + c.layouts * paper.layout_size c.row))
    ∷ (2, leb c.given paper.max_given && leb mark 1 && all paper.layout_in_range (layouts_of c))
    ∷ (3, room t c.row)
    ∷ (4, rises t c.row c.given)
    ∷ [])

-- ---- why a line is refused

-- its refusal's number
abbrev pub fault_number : Fault → ℕ
fault_number Form = 1
fault_number Range = 2
fault_number Count = 3
fault_number Order = 4

-- that refusal
abbrev pub refusal_at : Fault → ℕ → Refusal
refusal_at Form line = refusal.Form line
refusal_at Range line = refusal.Range line
refusal_at Count line = refusal.Count line
refusal_at Order line = refusal.Order line

-- by number: 0 where no test failed
abbrev pub number_by : {A : Type 0} → Result A Fault → ℕ
number_by (Ok a) = 0
number_by (Err f) = fault_number f

-- ---- the first test that fails

-- two lists of tests, of which the second has the same answer as long as the answers so far are true
pub test-same : (k : ℕ) (a b : Bool) (ts us : List (ℕ × Bool)) → a ≡ b
    → (a ≡ true → paper.first_failing ts ≡ paper.first_failing us)
    → paper.first_failing ((k, a) ∷ ts) ≡ paper.first_failing ((k, b) ∷ us)
unfolding paper.first_failing
test-same k a true ts us e f = rw (e, f e)
test-same k a false ts us e f = rw e

-- ---- a line with its lead

abbrev pub line_at : Text → ℕ → Text
line_at text at = first_line (drop at text)

module _ (lead : ℕ) (text : Text) (at : ℕ) where
  -- the line's fields, its lead among them
  abbrev field_count : ℕ
  field_count = length (fields_of (line_at text at))

  -- the first test of a line that has no such lead, or no numbers: it asks for two fields at least
  unled : led lead (drop at text) ≡ false → (p : ℕ → Bool) → (p field_count ≡ true → 2 ≤ field_count)
      → paper.formed (lead ∷ []) (line_at text at) && p field_count ≡ false
  unfolding led
  unled e p h = go (paper.formed (lead ∷ []) (line_at text at)) (p field_count) e h
    where
      go : (f u : Bool) → f && leb 2 field_count ≡ false → (u ≡ true → 2 ≤ field_count) → f && u ≡ false
      go true true q k = let b = leb-false 2 field_count q in let m = k refl in absurd (omega arith)
      go true false q k = refl
      go false u q k = refl

  module _ (r : Numbers) (l : LedTo lead text at r) where
    formed-led : (paper.formed (lead ∷ []) (line_at text at) ≡ true) × (leb 2 field_count ≡ true)
    unfolding led
    formed-led = (and-eq-true_iff (paper.formed (lead ∷ []) (line_at text at)) (leb 2 field_count)).0 l.ok

    fields-count : suc r.count ≡ field_count
    fields-count =
        omega (
          arith,
          l.found.count,
          length-drop 1 (fields_of (line_at text at)),
          leb-true 2 field_count formed-led.1,
        )

    -- The first test of one that has them asks something of how many fields there are, and the code asks the same of
    -- how many numbers.
    led-test : (n : Bool) (p : ℕ → Bool) → (suc r.count ≡ field_count → n ≡ p field_count)
        → n ≡ paper.formed (lead ∷ []) (line_at text at) && p field_count
    led-test n p e = rw formed-led.0 (e fields-count)

    numbers-count : length (paper.numbers_of (line_at text at)) ≡ r.count
    numbers-count = length-map (drop 1 (fields_of (line_at text at))) value ∙ sym l.found.count

-- ---- a line with one of two leads

-- the line begins with the second of them
abbrev pub begins : ℕ → Text → ℕ → Bool
begins other text at = eqb (get_or text at 0) other

-- its lead, by the byte that it begins with
abbrev pub lead_at : ℕ → ℕ → Bool → ℕ
lead_at one other second = cond second other one

-- that lead, which is no comma
pub record LeadOf (one other : ℕ) (second : Bool) (lead : ℕ) : Type 0 where
  pub byte : lead ≡ lead_at one other second
  pub high : comma < lead

-- neither lead is a comma
pub record Leads (one other : ℕ) : Type 0 where
  pub one-high : comma < one
  pub other-high : comma < other

module _ (one other : ℕ) (text : Text) (at : ℕ) (there : at < length text) where
  abbrev second : Bool
  second = begins other text at

  abbrev its_lead : ℕ
  its_lead = lead_at one other second

  lead-same : paper.formed (its_lead ∷ []) (line_at text at) ≡ paper.formed (one ∷ other ∷ []) (line_at text at)
  lead-same = rw (drop-cons text at 0 there) (formed-either one other (get_or text at 0) (drop (suc at) text))

  formed-same : paper.formed (one ∷ other ∷ []) (line_at text at) ≡ true
      → paper.led_by (other ∷ []) (line_at text at) ≡ second
  formed-same e =
      let f = rw (drop-cons text at 0 there) at e in
      rw (drop-cons text at 0 there) (formed-other one other (get_or text at 0) (drop (suc at) text) f)

  second-same : (r : Numbers) → LedTo its_lead text at r → paper.led_by (other ∷ []) (line_at text at) ≡ second
  second-same r l = formed-same (sym lead-same ∙ (formed-led its_lead text at r l).0)

-- ---- the header line

-- a first test of a header, by what is asked where it has the lead that it begins with
first_by : (f : Bool) (p : Bool → Bool) (a b : Bool) → (f ≡ true → b ≡ a) → f && p a ≡ f && p b
first_by true p a b e = ap p (sym (e refl))
first_by false p a b e = refl

module _ (text : Text) (there : 0 < length text) where
  abbrev filled : Bool
  filled = begins paper.filled_lead text 0

  abbrev head_line : Text
  head_line = line_at text 0

  abbrev pub head_lead : ℕ
  head_lead = lead_at paper.header_lead paper.filled_lead filled

  abbrev head_fields : Bool → Bool
  head_fields t = eqb (field_count head_lead text 0) (paper.header_fields t)

  -- its first test, by the lead that it begins with
  head_first : paper.formed (head_lead ∷ []) head_line && head_fields filled
      ≡ paper.formed (paper.header_lead ∷ paper.filled_lead ∷ []) head_line
      && head_fields (paper.weighs_filled head_line)
  head_first =
      ap (λ t. t && head_fields filled) (lead-same paper.header_lead paper.filled_lead text 0 there)
      ∙ first_by _ head_fields filled (paper.weighs_filled head_line)
      (formed-same paper.header_lead paper.filled_lead text 0 there)

  pub head-unled : led head_lead (drop 0 text) ≡ false → paper.header_refusal head_line ≡ 1
  unfolding paper.header_refusal paper.first_failing
  head-unled e =
      rw (sym head_first ∙ unled head_lead text 0 e (λ n. eqb n (paper.header_fields filled)) (some filled))
    where
      some : (t : Bool) → eqb (length (fields_of head_line)) (paper.header_fields t) ≡ true
          → 2 ≤ length (fields_of head_line)
      some true e = let q = eqb-true (length (fields_of head_line)) 10 e in omega arith
      some false e = let q = eqb-true (length (fields_of head_line)) 9 e in omega arith

  module _ (r : Numbers) (l : LedTo head_lead text 0 r) where
    count_same : (t : Bool) → suc r.count ≡ field_count head_lead text 0
        → eqb r.count (head_count t) ≡ eqb (field_count head_lead text 0) (paper.header_fields t)
    count_same true e = sym (eqb-suc-suc r.count 9) ∙ ap (λ (n : ℕ). eqb n 10) e
    count_same false e = sym (eqb-suc-suc r.count 8) ∙ ap (λ (n : ℕ). eqb n 9) e

    -- the numbers of a line that passes the first test
    head_passed : eqb r.count (head_count filled) ≡ true → length (paper.numbers_of head_line) ≡ head_count filled
    head_passed e = numbers-count head_lead text 0 r l ∙ eqb-true r.count (head_count filled) e

    pub head-number : head_number filled r.count (header_in filled r.values) ≡ paper.header_refusal head_line
    unfolding head_number paper.header_refusal
    head-number =
        test-same 1 _ _ _ _
        (led-test head_lead text 0 r l (eqb r.count (head_count filled)) (λ n. eqb n (paper.header_fields filled))
        (count_same filled)
        ∙ head_first)
        (λ e.
        test-same 2 _ _ _ _
        (header-ranged (paper.numbers_of head_line) r.values l.found.values filled (head_passed e))
        (λ _. refl))

    pub head_read : head_number filled r.count (header_in filled r.values) ≡ 0
        → header_of (header_in filled r.values) ≡ paper.line_header head_line
    unfolding head_number
    head_read e =
        header_made (paper.numbers_of head_line) r.values l.found.values filled (head_passed (test-passed 0 _ _ e).0)
        ∙ ap (λ t. paper.header_of t (paper.numbers_of head_line))
        (sym (second-same paper.header_lead paper.filled_lead text 0 there r l))

-- ---- a cell line

module _ (text : Text) (at : ℕ) (there : at < length text) where
  abbrev fixed : Bool
  fixed = begins paper.fixed_lead text at

  -- its lead: F if the cell is fixed
  abbrev pub cell_lead_at : ℕ
  cell_lead_at = lead_at paper.cell_lead paper.fixed_lead fixed

  abbrev cell_line : Text
  cell_line = line_at text at

  cell_first : paper.formed (cell_lead_at ∷ []) cell_line && leb 5 (length (fields_of cell_line))
      ≡ paper.formed (paper.cell_lead ∷ paper.fixed_lead ∷ []) cell_line && leb 5 (length (fields_of cell_line))
  cell_first =
      ap (λ t. t && leb 5 (length (fields_of cell_line))) (lead-same paper.cell_lead paper.fixed_lead text at there)

  pub cell-unled : led cell_lead_at (drop at text) ≡ false → (j : paper.Job) → paper.cell_refusal j cell_line ≡ 1
  unfolding paper.cell_refusal paper.first_failing
  cell-unled e j =
      rw (sym cell_first
      ∙ unled cell_lead_at text at e (λ n. leb 5 n)
      (λ e. let q = leb-true 5 (length (fields_of cell_line)) e in omega arith))

  abbrev numbers : List ℕ
  numbers = paper.numbers_of cell_line

  module _ (r : Numbers) (l : LedTo cell_lead_at text at r) where
    -- the cell of a line whose field count fits its row and layouts
    made : within 1 2 (get_or r.values 3 0) ≡ true
        → eqb r.count (4 + get_or r.values 3 0 * paper.layout_size (get_or r.values 0 0)) ≡ true
        → cell_of (cell_in fixed r.values) ≡ paper.cell_of fixed numbers
    made w e =
        let v = l.found.values in
        let k = get_or r.values 3 0 in
        let b = (and-eq-true_iff (leb 1 k) (leb k 2)).0 w in
        let v3 = v 3 (omega arith) in
        let size =
        numbers-count cell_lead_at text at r l ∙ eqb-true r.count (4 + k * paper.layout_size (get_or r.values 0 0)) e in
        cell-made numbers r.values v fixed (omega (arith, v3, leb-true 1 k b.0))
        (omega (arith, v3, leb-true k 2 b.1))
        (size ∙ rw (v3, v 0 (omega arith)))

    pub cell-number : (t : Tally) (j : paper.Job) → Tallies j t
        → cell_number t r.count (get_or r.values 2 0) (cell_in fixed r.values) ≡ paper.cell_refusal j cell_line
    unfolding cell_number paper.cell_refusal paper.rest_in_range paper.cell_of cell_of
    cell-number t j s =
        let v = l.found.values in
        let v0 = v 0 (omega arith) in
        let v3 = v 3 (omega arith) in
        test-same 1 _ _ _ _
        (led-test cell_lead_at text at r l (leb 4 r.count) (λ n. leb 5 n)
        (λ e. sym (leb-suc-suc 4 r.count) ∙ ap (λ (n : ℕ). leb 5 n) e)
        ∙ cell_first)
        (λ e1.
        test-same 2 _ _ _ _ (rw (v0, v3, s.rows))
        (λ e2.
        test-same 1 _ _ _ _ (rw (v0, v3, numbers-count cell_lead_at text at r l))
        (λ e3.
        let c =
        made
        ((and-eq-true_iff (leb (get_or r.values 0 0) (cond (eqb t.rows 2) 2 0))
        (within 1 2 (get_or r.values 3 0))).0 e2).1 e3 in
        let m : layouts_of (cell_in fixed r.values) ≡ (paper.cell_of fixed numbers).layouts =
        ap (λ (x : paper.Cell). x.layouts) c in
        test-same 2 _ _ _ _ (rw (m, v 1 (omega arith), v 2 (omega arith)))
        (λ e4. test-same 3 _ _ _ _ (ap (room t) v0 ∙ room-cells s (paper.line_cell cell_line))
        (λ e5. test-same 4 _ _ _ _ (rw (v0, v 1 (omega arith)) (rises-tally s (paper.line_cell cell_line)))
        (λ e6. refl))))))

    -- what a line that is not refused says
    pub record Passed (t : Tally) : Type 0 where
      pub cell : cell_of (cell_in fixed r.values) ≡ paper.line_cell cell_line
      pub few : t.count < paper.max_cells

    pub cell-passed : (t : Tally) → cell_number t r.count (get_or r.values 2 0) (cell_in fixed r.values) ≡ 0 → Passed t
    unfolding cell_number
    cell-passed t e =
        let p1 = test-passed 0 _ _ e in
        let p2 = test-passed 1 _ _ p1.1 in
        let p3 = test-passed 0 _ _ p2.1 in
        let p4 = test-passed 1 _ _ p3.1 in
        let p5 = test-passed 2 _ _ p4.1 in
        record {
          cell =
              made
              ((and-eq-true_iff (leb (get_or r.values 0 0) (cond (eqb t.rows 2) 2 0))
              (within 1 2 (get_or r.values 3 0))).0 p2.0).1
              p3.0
              ∙ ap (λ t. paper.cell_of t numbers)
              (sym (second-same paper.cell_lead paper.fixed_lead text at there r l));
          few = ltb-true t.count paper.max_cells ((and-eq-true_iff (ltb t.count paper.max_cells) _).0 p5.0).0;
        }
