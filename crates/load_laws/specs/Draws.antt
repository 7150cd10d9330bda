-- What is drawn lies in its range; draws one after another.
use Rattle.std.specs.Prelude.{ℕ, zero, suc, ◌+◌, ◌*◌, ◌-◌, ◌%◌, ◌≤◌, ◌<◌, ◌≡◌, refl, Bool, true, false, ◌&&◌, cond, List, [], ◌∷◌, ◌++◌, length, replicate, leb, eqb}
use Rattle.std.proofs.Common.{ap, ◌∙◌, arith, mod-lt, suc-mul, length-append, leb-true, le-leb}
use Rattle.std.proofs.Math.Bool.{and-eq-true_iff}
use Rattle.std.proofs.lemmas.List.{length-replicate}
use Rattle.definition.specs.Lists.{all}
use Rattle.definition.specs.Texts.{within}
use Rattle.definition.specs.Job.{layout_size}
use Rattle.definition.specs.Draws.{Generator, Range, ◌to◌, next, yield, drawn, draws, drawn_all}
use Rattle.definition.specs.Load.{layout_ranges, repeated}
use Rattle.text_laws.specs.Numbers.{also, all_append}

-- ---- one field

pub drawn-low : (r : Range) (g : Generator) → r.low ≤ drawn r g
unfolding drawn
drawn-low r g = omega arith

pub drawn-high : (r : Range) (g : Generator) → r.low ≤ r.high → drawn r g ≤ r.high
unfolding drawn
drawn-high r g h =
    let m : yield g % (r.high - r.low + 1) < r.high - r.low + 1 = mod-lt (yield g) (omega arith) in
    omega arith

-- a range with some number, all of them from a to b
abbrev pub inside : ℕ → ℕ → Range → Bool
inside a b r = leb a r.low && leb r.low r.high && leb r.high b

pub drawn-within : (a b : ℕ) (r : Range) (g : Generator) → inside a b r ≡ true → within a b (drawn r g) ≡ true
drawn-within a b r g e =
    let p = (and-eq-true_iff (leb a r.low && leb r.low r.high) (leb r.high b)).0 e in
    let q = (and-eq-true_iff (leb a r.low) (leb r.low r.high)).0 p.0 in
    let low : a ≤ r.low = leb-true a r.low q.0 in
    let some : r.low ≤ r.high = leb-true r.low r.high q.1 in
    let high : r.high ≤ b = leb-true r.high b p.1 in
    also (leb a (drawn r g)) (leb (drawn r g) b)
    (le-leb a (drawn r g) (omega (arith, drawn-low r g)))
    (le-leb (drawn r g) b (omega (arith, drawn-high r g some)))

-- ---- fields in turn

pub length-drawn : (rs : List Range) (g : Generator) → length (drawn_all rs g) ≡ length rs
unfolding drawn_all
length-drawn [] g = refl
length-drawn (r ∷ rs) g = ap suc (length-drawn rs (next g))

pub drawn_append : (rs qs : List Range) (g : Generator)
    → drawn_all (rs ++ qs) g ≡ drawn_all rs g ++ drawn_all qs (draws (length rs) g)
unfolding drawn_all
drawn_append [] qs g = refl
drawn_append (r ∷ rs) qs g = ap (λ (l : List ℕ). drawn r (next g) ∷ l) (drawn_append rs qs (next g))

pub draws-add : (m n : ℕ) (g : Generator) → draws (m + n) g ≡ draws n (draws m g)
draws-add zero n g = let e : 0 + n ≡ n = omega arith in ap (λ (i : ℕ). draws i g) e
draws-add (suc m) n g =
    let e : suc m + n ≡ suc (m + n) = omega arith in
    ap (λ (i : ℕ). draws i g) e ∙ draws-add m n (next g)

pub all-drawn : (a b : ℕ) (rs : List Range) (g : Generator) → all (inside a b) rs ≡ true
    → all (within a b) (drawn_all rs g) ≡ true
unfolding drawn_all
all-drawn a b [] g e = refl
all-drawn a b (r ∷ rs) g e =
    let p = (and-eq-true_iff (inside a b r) (all (inside a b) rs)).0 e in
    also (within a b (drawn r (next g))) (all (within a b) (drawn_all rs (next g)))
    (drawn-within a b r (next g) p.0) (all-drawn a b rs (next g) p.1)

-- ---- the ranges of layouts

pub all_replicate : (t : Range → Bool) (n : ℕ) (r : Range) → t r ≡ true → all t (replicate n r) ≡ true
all_replicate t zero r e = refl
all_replicate t (suc n) r e = also (t r) (all t (replicate n r)) e (all_replicate t n r e)

pub length_ranges : (row : ℕ) → length (layout_ranges row) ≡ layout_size row
length_ranges row = ap suc (length-replicate (layout_size row - 1) (1 to 4)) ∙ go (eqb row 2)
  where
    go : (t : Bool) → suc (cond t 9 5 - 1) ≡ cond t 9 5
    go true = refl
    go false = refl

pub length-repeated : (n : ℕ) (rs : List Range) → length (repeated n rs) ≡ n * length rs
length-repeated zero rs = omega arith
length-repeated (suc n) rs =
    omega (arith, length-append rs (repeated n rs), length-repeated n rs, suc-mul n (length rs))

pub all-repeated : (t : Range → Bool) (n : ℕ) (rs : List Range) → all t rs ≡ true → all t (repeated n rs) ≡ true
all-repeated t zero rs e = refl
all-repeated t (suc n) rs e = all_append t rs (repeated n rs) e (all-repeated t n rs e)
