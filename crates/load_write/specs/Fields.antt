-- Drawn fields in the output: each number after a comma, one draw a number.
use Rattle.std.specs.Prelude.{ℕ, zero, suc, ◌+◌, ◌*◌, ◌≤◌, ◌<◌, ◌≡◌, refl, true, ◌&&◌, List, [], ◌∷◌, ◌++◌, length, replicate, leb}
use Rattle.std.proofs.Common.{sym, ap, ◌∙◌, append_assoc, append-nil, arith, add-one, length-append, le-leb}
use Rattle.std.proofs.lemmas.List.{length-replicate}
use Rattle.definition.specs.Lists.{all}
use Rattle.definition.specs.Texts.{comma, digits}
use Rattle.definition.specs.Draws.{Generator, Range, ◌to◌, next, drawn, draws, drawn_all}
use Rattle.definition.specs.Load.{repeated, listed}
use Rattle.text_laws.specs.Numbers.{also, four-long}
use Rattle.text_write.specs.Put.{Room, Wrote}
use Rattle.text_write.specs.Puts.{wrote_none, wrote_length, then}
use Rattle.load_laws.specs.Draws.{inside, drawn-high, length-drawn, drawn_append, draws-add, all-drawn, all_replicate}
use Rattle.load_laws.specs.Lines.{field_bytes, listed-long}
use Rattle.load_draws.specs.Generators.{generator_of, InForm}
use Rattle.load_draws.specs.declared.Generator as program
use Rattle.load_write.specs.declared.Cursor.{Cursor}

-- what a writer of n fields asks: each takes a comma and at most four digits
pub record FieldsRoom (n at : ℕ) (output : List ℕ) : Type 0 where
  pub fits : at + field_bytes * n ≤ length output

-- and of fields from low to high
pub record RangeRoom (low high n at : ℕ) (output : List ℕ) : Type 0 where
  pub form : InForm low high
  pub room : FieldsRoom n at output

-- what it leaves: the fields of these ranges, and where to go on
pub record WroteFields (ranges : List Range) (c : Cursor) (before end : List ℕ) (r : Cursor) : Type 0 where
  pub bytes : Wrote (listed (drawn_all ranges (generator_of c.generator))) before c.at end r.at
  pub generator : generator_of r.generator ≡ draws (length ranges) (generator_of c.generator)

pub listed_append : (xs ys : List ℕ) → listed (xs ++ ys) ≡ listed xs ++ listed ys
unfolding listed
listed_append [] ys = refl
listed_append (x ∷ xs) ys =
    ap (λ (l : List ℕ). comma ∷ l)
    (ap (λ (l : List ℕ). digits x ++ l) (listed_append xs ys) ∙ sym (append_assoc (digits x) (listed xs) (listed ys)))

-- a number alone
pub listed-one : (n : ℕ) → listed (n ∷ []) ≡ comma ∷ digits n
unfolding listed
listed-one n = ap (λ (l : List ℕ). comma ∷ l) (append-nil (digits n))

-- ---- no field, one field, some after others

pub fields-none : (c : Cursor) (l : List ℕ) → WroteFields [] c l l c
unfolding drawn_all listed
fields-none c l = record { bytes = wrote_none l c.at; generator = refl }

fields-one : {c d : Cursor} {l m : List ℕ} (r : Range)
    → generator_of d.generator ≡ next (generator_of c.generator)
    → Wrote (listed (drawn r (generator_of d.generator) ∷ [])) l c.at m d.at → WroteFields (r ∷ []) c l m d
unfolding drawn_all
fields-one r e w = record { bytes = rw e at w; generator = e }

pub fields-then : {rs qs : List Range} {c d e : Cursor} {l m n : List ℕ} → WroteFields rs c l m d
    → WroteFields qs d m n e → WroteFields (rs ++ qs) c l n e
fields-then {rs} {qs} {c} {d} {e} {l} {m} {n} a b =
    let g = generator_of c.generator in
    let split : listed (drawn_all (rs ++ qs) g) ≡ listed (drawn_all rs g) ++ listed (drawn_all qs (draws (length rs) g)) =
    ap listed (drawn_append rs qs g) ∙ listed_append (drawn_all rs g) (drawn_all qs (draws (length rs) g)) in
    let second : Wrote (listed (drawn_all qs (draws (length rs) g))) m d.at n e.at =
    rw a.generator at b.bytes in
    record {
      bytes = rw split (then a.bytes second);
      generator =
          b.generator ∙ ap (draws (length qs)) a.generator
          ∙ sym (draws-add (length rs) (length qs) g)
          ∙ ap (λ (k : ℕ). draws k g) (sym (length-append rs qs));
    }

-- ---- lists of ranges that grow at their end

replicate_more : (n : ℕ) (r : Range) → replicate (n + 1) r ≡ replicate n r ++ (r ∷ [])
replicate_more n r = rw (add-one n) (go n)
  where
    go : (n : ℕ) → replicate (suc n) r ≡ replicate n r ++ (r ∷ [])
    go zero = refl
    go (suc n) = ap (λ (l : List Range). r ∷ l) (go n)

pub repeated-more : (n : ℕ) (rs : List Range) → repeated (n + 1) rs ≡ repeated n rs ++ rs
repeated-more n rs = rw (add-one n) (go n)
  where
    go : (n : ℕ) → repeated (suc n) rs ≡ repeated n rs ++ rs
    go zero = append-nil rs
    go (suc n) = ap (λ (l : List Range). rs ++ l) (go n) ∙ sym (append_assoc rs (repeated n rs) rs)

-- ---- room

pub fields-end : {rs : List Range} {c d : Cursor} {l m : List ℕ} → all (inside 0 9999) rs ≡ true
    → WroteFields rs c l m d
    → d.at ≤ c.at + field_bytes * length rs
fields-end {rs} {c} e w =
    let g = generator_of c.generator in
    omega (arith, w.bytes.cursor, listed-long (drawn_all rs g) (all-drawn 0 9999 rs g e), length-drawn rs g)

-- where some fields fit, the others fit after them
pub rest-room : {rs : List Range} {c d : Cursor} {l m : List ℕ} {n k : ℕ} → FieldsRoom n c.at l
    → all (inside 0 9999) rs ≡ true → WroteFields rs c l m d → length rs + k ≤ n → FieldsRoom k d.at m
rest-room {rs} room e w h = record { fits = omega (arith, room.fits, fields-end e w, wrote_length w.bytes) }

inside-form : (low high : ℕ) → InForm low high → inside 0 9999 (low to high) ≡ true
inside-form low high h =
    also (leb 0 low && leb low high) (leb high 9999)
    (also (leb 0 low) (leb low high) (le-leb 0 low (omega arith)) (le-leb low high h.some))
    (le-leb high 9999 h.few)

-- ---- one field more of a range

module _ {low high : ℕ} {c d : Cursor} {l m : List ℕ} (i : ℕ) (h : InForm low high)
    (w : WroteFields (replicate i (low to high)) c l m d) where
  pub next-room : {count n : ℕ} (g : Generator) → FieldsRoom count c.at l → i < count → n ≡ drawn (low to high) g
      → Room (listed (n ∷ [])) m d.at
  next-room {count} {n} g room few e =
      let n-low : n ≤ 9999 = omega (arith, drawn-high (low to high) g h.some, h.few) in
      let end = fields-end (all_replicate (inside 0 9999) i (low to high) (inside-form low high h)) w in
      record {
        fits = omega (
          arith,
          room.fits,
          end,
          ap length (listed-one n),
          four-long n n-low,
          length-replicate i (low to high),
          wrote_length w.bytes,
        );
      }

  pub next_wrote : {n at : ℕ} {k : List ℕ} (g : program.Generator) → generator_of g ≡ next (generator_of d.generator)
      → n ≡ drawn (low to high) (generator_of g) → Wrote (listed (n ∷ [])) m d.at k at
      → WroteFields (replicate (i + 1) (low to high)) c l k (record { at = at; generator = g })
  next_wrote {n} {at} {k} g e f v =
      rw (replicate_more i (low to high))
      (fields-then w (fields-one (low to high) e (rw f at v)))
