-- A line of numbers, each after a comma: how it is read, and how long it is.
use Rattle.std.specs.Prelude.{ℕ, ◌+◌, ◌*◌, ◌≤◌, ◌≡◌, refl, Bool, true, false, List, [], ◌∷◌, ◌++◌, map, length, leb}
use Rattle.std.proofs.Common.{sym, ap, subst, ◌∙◌, append_assoc, arith, length-append, leb-true, le-leb}
use Rattle.std.proofs.Math.Bool.{and-eq-true_iff}
use Rattle.std.proofs.lemmas.List.{length-map}
use Rattle.definition.specs.Lists.{all}
use Rattle.definition.specs.Texts.{Text, line_feed, onto, lines_of, fields_of, ended, is_number, within}
use Rattle.definition.specs.Texts.{value, digits}
use Rattle.definition.specs.Job.{Job, cell_refusal, numbers_of, cell_of, line_cell, formed, cell_lead, fixed_lead, led_by}
use Rattle.definition.specs.Load.{listed, numbers_line}
use Rattle.job_laws.specs.Line.{Taken, not-refused}
use Rattle.text_laws.specs.Numbers.{also, four-long}
use Rattle.text_laws.proofs.Numbers.{value-digits, digits-each, digits_number}
use Rattle.text_laws.specs.Lines.{Unbroken, unbroken_append, digits-unbroken, one_line, ended-line, field-first}

-- numbers in their form
abbrev pub printable : List ℕ → Bool
printable ns = all (within 0 9999) ns

pub is-printable : (n : ℕ) → n ≤ 9999 → within 0 9999 n ≡ true
is-printable n h = also (leb 0 n) (leb n 9999) (le-leb 0 n (omega arith)) (le-leb n 9999 h)

-- the first of them, and the others
parts : (n : ℕ) (ns : List ℕ) → printable (n ∷ ns) ≡ true → (n ≤ 9999) × (printable ns ≡ true)
parts n ns e =
    let p = (and-eq-true_iff (within 0 9999 n) (printable ns)).0 e in
    let q = (and-eq-true_iff (leb 0 n) (leb n 9999)).0 p.0 in
    (leb-true n 9999 q.1, p.1)

-- ---- the line

pub listed-fields : (ns : List ℕ) → fields_of (listed ns ++ (line_feed ∷ [])) ≡ [] ∷ map digits ns
unfolding fields_of listed
listed-fields [] = refl
listed-fields (n ∷ ns) =
    ap (λ (t : Text). [] ∷ fields_of t) (append_assoc (digits n) (listed ns) (line_feed ∷ []))
    ∙ ap (λ (fs : List Text). [] ∷ fs)
    (field-first (digits n) (listed ns ++ (line_feed ∷ [])) (map digits ns) (digits-each n) (listed-fields ns))

line-fields : (ns : List ℕ) → fields_of (numbers_line ns) ≡ (cell_lead ∷ []) ∷ map digits ns
unfolding fields_of
line-fields ns = ap (onto cell_lead) (listed-fields ns)

pub listed-unbroken : (ns : List ℕ) → Unbroken (listed ns)
unfolding listed
listed-unbroken [] = tt
listed-unbroken (n ∷ ns) =
    let own = digits-unbroken (digits n) (digits-each n) in
    ((λ e. omega arith), unbroken_append (digits n) (listed ns) own (listed-unbroken ns))

pub line-alone : (ns : List ℕ) → lines_of (numbers_line ns) ≡ numbers_line ns ∷ []
line-alone ns = one_line (cell_lead ∷ listed ns) ((λ e. omega arith), listed-unbroken ns)

pub line-ended : (t : Text) (ns : List ℕ) → ended (t ++ numbers_line ns) ≡ true
line-ended t ns =
    ap ended (sym (append_assoc t (cell_lead ∷ listed ns) (line_feed ∷ []))) ∙ ended-line (t ++ (cell_lead ∷ listed ns))

-- ---- what it is read as

pub values : (ns : List ℕ) → map value (map digits ns) ≡ ns
values [] = refl
values (n ∷ ns) = rw (value-digits n, values ns)

line-numbers : (ns : List ℕ) → numbers_of (numbers_line ns) ≡ ns
line-numbers ns = rw (line-fields ns) (values ns)

pub line-cell : (ns : List ℕ) → line_cell (numbers_line ns) ≡ cell_of false ns
line-cell ns = rw (line-fields ns) (ap (cell_of false) (values ns))

in_form : (ns : List ℕ) → printable ns ≡ true → all is_number (map digits ns) ≡ true
in_form [] e = refl
in_form (n ∷ ns) e =
    let p = parts n ns e in
    also (is_number (digits n)) (all is_number (map digits ns)) (digits_number n p.0) (in_form ns p.1)

line-formed : (ns : List ℕ) → printable ns ≡ true → formed (cell_lead ∷ fixed_lead ∷ []) (numbers_line ns) ≡ true
line-formed ns e = rw (line-fields ns, ended-line (cell_lead ∷ listed ns)) (in_form ns e)

-- not led by `F`
line-led : (ns : List ℕ) → led_by (fixed_lead ∷ []) (numbers_line ns) ≡ false
line-led ns = rw (line-fields ns)

pub line_taken : (j : Job) (ns : List ℕ) → printable ns ≡ true → 4 ≤ length ns → Taken j false ns
    → cell_refusal j (numbers_line ns) ≡ 0
line_taken j ns e many t =
    let five : 5 ≤ length (fields_of (numbers_line ns)) = rw (line-fields ns) (omega (arith, length-map ns digits)) in
    let as_read : Taken j (led_by (fixed_lead ∷ []) (numbers_line ns)) (numbers_of (numbers_line ns)) =
    subst (λ (fixed : Bool). Taken j fixed (numbers_of (numbers_line ns))) (sym (line-led ns))
    (subst (Taken j false) (sym (line-numbers ns)) t) in
    not-refused j (numbers_line ns) (line-formed ns e) five as_read

-- ---- its length

-- the most bytes of a number: a comma and four digits
abbrev pub field_bytes : ℕ
field_bytes = 5

-- the most numbers of all layouts of a cell: two of nine; and of a cell line
abbrev pub layout_fields : ℕ
layout_fields = 18

abbrev pub line_fields : ℕ
line_fields = 22

-- the most bytes of a cell line, with its lead and its line feed; the bytes of the header
abbrev pub line_bytes : ℕ
line_bytes = 112

abbrev pub header_bytes : ℕ
header_bytes = 26

pub listed-long : (ns : List ℕ) → printable ns ≡ true → length (listed ns) ≤ field_bytes * length ns
unfolding listed
listed-long [] e = omega arith
listed-long (n ∷ ns) e =
    let p = parts n ns e in
    omega (arith, four-long n p.0, listed-long ns p.1, length-append (digits n) (listed ns))

pub line-long : (ns : List ℕ) → printable ns ≡ true → length (numbers_line ns) ≤ field_bytes * length ns + 2
line-long ns e = omega (arith, listed-long ns e, length-append (listed ns) (line_feed ∷ []))
