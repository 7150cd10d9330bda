-- Costs as a program holds them: a number below the bound B, and B for none; sums stop at B.
use Rattle.std.specs.Prelude.{◌≡◌, refl, List, [], ◌∷◌, ◌++◌, Bool, true, false, cond, ℕ, zero, suc, ◌+◌, min, ◌≤◌, ◌<◌, leb}
use Rattle.std.proofs.Common.{ap, ◌∙◌, arith}
use Rattle.std.proofs.Math.Option.{Option, none, some}
use Rattle.lists.specs.Compare.{Le?, low, high, le?}
use Rattle.lists.specs.Numbers.{from}
use Rattle.theory_row.specs.Cheapest.{lower}
use Rattle.theory_pair.specs.Forward.{each, add, least_of, layer}
use Rattle.theory_pair.specs.Pick.{pick}

unfoldable pub coded : ℕ → Option ℕ → ℕ
coded B none = B
coded B (some v) = min v B

-- what a loop over a list comes to, if it keeps the lowest, B at first
unfoldable pub lowest : {S : Type 0} → ℕ → (S → ℕ) → List S → ℕ
lowest B h [] = B
lowest B h (u ∷ l) = min (h u) (lowest B h l)

pub coded-low : (B : ℕ) (o : Option ℕ) → coded B o ≤ B
unfolding coded
coded-low B none = omega arith
coded-low B (some v) = omega arith

-- a code below the bound is the cost itself; the bound is none, or a cost from the bound on
pub coded-some : (B v : ℕ) (o : Option ℕ) → coded B o ≡ v → v < B → o ≡ some v
unfolding coded
coded-some B v none e h = absurd (omega arith)
coded-some B v (some w) e h = ap some (omega arith)

pub coded_none : (B x : ℕ) (o : Option ℕ) → coded B o ≡ B → o ≡ some x → B ≤ x
unfolding coded
coded_none B x none e z = absurd (let y : ◌≡◌ {A = ℕ} 0 1 = cc in omega arith)
coded_none B x (some w) e z = let y : w ≡ x = cc in omega arith

pub coded-lower : (B : ℕ) (a b : Option ℕ) → coded B (lower a b) ≡ min (coded B a) (coded B b)
unfolding coded lower
coded-lower B none b = omega (arith, coded-low B b)
coded-lower B (some a) none = omega arith
coded-lower B (some a) (some b) = go (leb a b) (le? a b)
  where
    go : (t : Bool) → Le? a b t → coded B (cond t (some a) (some b)) ≡ min (min a B) (min b B)
    go true (low h) = omega arith
    go false (high h) = omega arith

pub coded-add : (B : ℕ) (a b : Option ℕ) → coded B (add a b) ≡ min (coded B a + coded B b) B
unfolding coded add
coded-add B none b = omega arith
coded-add B (some a) none = omega arith
coded-add B (some a) (some b) = omega arith

pub coded-least : {S : Type 0} (B : ℕ) (f : S → Option ℕ) (l : List S)
    → coded B (least_of f l) ≡ lowest B (λ u. coded B (f u)) l
unfolding least_of lowest coded
coded-least B f [] = refl
coded-least B f (u ∷ l) = coded-lower B (f u) (least_of f l) ∙ ap (λ x. min (coded B (f u)) x) (coded-least B f l)

-- an entry of a layer, from the codes of the layer before
pub coded-layer : {S : Type 0} (B : ℕ) (states : ℕ → List S) (step : ℕ → S → S → Option ℕ) (s : S) (j : ℕ) (t : S)
    → coded B (layer states step s (suc j) t)
    ≡ lowest B (λ u. coded B (add (layer states step s j u) (step (suc j) u t))) (states j)
unfolding layer
coded-layer B states step s j t = coded-least B (λ u. add (layer states step s j u) (step (suc j) u t)) (states j)

-- ---- loops

pub lowest-low : {S : Type 0} (B : ℕ) (h : S → ℕ) (l : List S) → lowest B h l ≤ B
unfolding lowest
lowest-low B h [] = omega arith
lowest-low B h (u ∷ l) = let r = lowest-low B h l in omega arith

pub lowest_append : {S : Type 0} (B : ℕ) (h : S → ℕ) (l m : List S)
    → lowest B h (l ++ m) ≡ min (lowest B h l) (lowest B h m)
unfolding lowest
lowest_append B h [] m = omega (arith, lowest-low B h m)
lowest_append B h (u ∷ l) m = let r = lowest_append B h l m in omega arith

-- a loop in a loop
pub lowest-each : {A S : Type 0} (B : ℕ) (h : S → ℕ) (l : List A) (f : A → List S)
    → lowest B h (each l f) ≡ lowest B (λ a. lowest B h (f a)) l
unfolding lowest each
lowest-each B h [] f = refl
lowest-each B h (a ∷ l) f =
    lowest_append B h (f a) (each l f) ∙ ap (λ x. min (lowest B h (f a)) x) (lowest-each B h l f)

-- a loop with a test in it
pub lowest-pick : (B : ℕ) (h : ℕ → ℕ) (t : ℕ → Bool) (l : List ℕ)
    → lowest B h (pick t l) ≡ lowest B (λ k. cond (t k) (h k) B) l
unfolding lowest pick
lowest-pick B h t [] = refl
lowest-pick B h t (k ∷ l) = go (t k) (lowest-pick B h t l)
  where
    go : (b : Bool) → lowest B h (pick t l) ≡ lowest B (λ k. cond (t k) (h k) B) l
        → lowest B h (cond b (k ∷ pick t l) (pick t l)) ≡ min (cond b (h k) B) (lowest B (λ k. cond (t k) (h k) B) l)
    go true e = ap (λ x. min (h k) x) e
    go false e = omega (arith, lowest-low B h (pick t l))

-- one more round of a loop over numbers
pub lowest-from : (B : ℕ) (h : ℕ → ℕ) (a n : ℕ) → lowest B h (from a (suc n)) ≡ min (lowest B h (from a n)) (h (a + n))
unfolding lowest from
lowest-from B h a zero = let z : a + 0 ≡ a = omega arith in let e : h (a + 0) ≡ h a = ap h z in omega arith
lowest-from B h a (suc n) =
    let r = lowest-from B h (suc a) n in
    let z : suc a + n ≡ a + suc n = omega arith in
    let e : h (suc a + n) ≡ h (a + suc n) = ap h z in
    omega arith
