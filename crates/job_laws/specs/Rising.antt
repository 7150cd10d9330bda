-- The largest given site of a row: what it is with one more cell, and that it decides whether a cell falls.
use Rattle.std.specs.Prelude.{ℕ, max, ◌≡◌, refl, Bool, true, false, not, ◌&&◌, ◌||◌, cond, List, [], ◌∷◌, ◌++◌, leb}
use Rattle.std.proofs.Common.{sym, ◌∙◌, arith, le-leb, leb-true, leb-false}
use Rattle.std.proofs.Math.Dec.{leb-zero}
use Rattle.std.proofs.lemmas.Bool.{lt-leb}
use Rattle.definition.specs.Lists.{all}
use Rattle.definition.specs.Job.{Cell, in_row, share_row, not_falling}
use Rattle.definition.specs.Load.{largest_in}

pub largest-more : (row : ℕ) (cs : List Cell) (c : Cell)
    → largest_in row (cs ++ c ∷ []) ≡ max (largest_in row cs) (cond (in_row row c) c.given 0)
largest-more row [] c = omega arith
largest-more row (d ∷ cs) c = let e = largest-more row cs c in omega arith

leb-max : (a b g : ℕ) → leb (max a b) g ≡ leb a g && leb b g
leb-max a b g = go (leb a g) (leb b g) refl refl
  where
    go : (s t : Bool) → leb a g ≡ s → leb b g ≡ t → leb (max a b) g ≡ s && t
    go true true p q = le-leb (max a b) g (omega (arith, leb-true a g p, leb-true b g q))
    go true false p q = lt-leb (max a b) g (omega (arith, leb-false b g q))
    go false t p q = lt-leb (max a b) g (omega (arith, leb-false a g p))

-- of one row: no cell of it is given above g, if the test asks about it at all
row-rises : (row g : ℕ) (asked : Bool) (cs : List Cell)
    → all (λ d. not (in_row row d && asked) || leb d.given g) cs ≡ not asked || leb (largest_in row cs) g
row-rises row g true [] = sym (leb-zero g)
row-rises row g false [] = refl
row-rises row g asked (d ∷ cs) =
    rw (row-rises row g asked cs, leb-max (cond (in_row row d) d.given 0) (largest_in row cs) g)
    (go (in_row row d) asked)
  where
    go : (t asked : Bool)
        → (not (t && asked) || leb d.given g) && (not asked || leb (largest_in row cs) g)
        ≡ not asked || (leb (cond t d.given 0) g && leb (largest_in row cs) g)
    go true true = refl
    go true false = refl
    go false true = rw (leb-zero g)
    go false false = refl

all-and : (f g h : Cell → Bool) → ((d : Cell) → f d ≡ g d && h d) → (cs : List Cell) → all f cs ≡ all g cs && all h cs
all-and f g h e [] = refl
all-and f g h e (d ∷ cs) = rw (e d, all-and f g h e cs) (go (g d) (h d) (all g cs) (all h cs))
  where
    go : (a b c d : Bool) → (a && b) && (c && d) ≡ (a && c) && (b && d)
    go true true c d = refl
    go true false true d = refl
    go true false false d = refl
    go false b c d = refl

pub rises-cells : (cs : List Cell) (c : Cell)
    → (not (in_row 0 c) || leb (largest_in 0 cs) c.given) && (not (in_row 1 c) || leb (largest_in 1 cs) c.given)
    ≡ not_falling cs c
rises-cells cs c =
    sym (all-and (λ d. not (share_row d c) || leb d.given c.given) (one 0) (one 1)
    (λ d. go (in_row 0 d && in_row 0 c) (in_row 1 d && in_row 1 c) (leb d.given c.given)) cs
    ∙ rw (row-rises 0 c.given (in_row 0 c) cs, row-rises 1 c.given (in_row 1 c) cs))
  where
    one : ℕ → Cell → Bool
    one row d = not (in_row row d && in_row row c) || leb d.given c.given

    go : (a b l : Bool) → not (a || (b || false)) || l ≡ (not a || l) && (not b || l)
    go true true true = refl
    go true true false = refl
    go true false true = refl
    go true false false = refl
    go false true true = refl
    go false true false = refl
    go false false l = refl
