-- Quick tests of rules 4 and 7: one pass shows that no two cells clash, or that no tall cell is passed.
use Rattle.std.specs.Prelude.{ℕ, suc, ◌≤◌, ◌<◌, ◌≡◌, refl, ◌≢◌, ◌⊎◌, Bool, true, not, ◌&&◌, ◌||◌, List, length, get_or, leb, eqb}
use Rattle.std.proofs.Common.{sym, ap, ◌∙◌, inl, inr, arith, le-ltb, eq-eqb, ne_eqb}
use Rattle.std.proofs.Math.Bool.{false, and-false, and-eq-true_iff}
use Rattle.std.proofs.lemmas.Bool.{false≢true}
use Rattle.std.proofs.Math.Decide.{ℕ_discrete}
use Rattle.std.proofs.Math.Dec.{ltb}
use Rattle.lists.specs.Compare.{Le?, low, high, le?, Eq?, same, differs, eq?}
use Rattle.lists.specs.Membership.{index_of}
use Rattle.definition.specs.Lists.{from, any}
use Rattle.job.specs.Parts.{stands_in}
use Rattle.score_order.specs.declared.Stand.{Stand}
use Rattle.score_order.specs.Words.{site_in, end_in, row_in, row_in_file}
use Rattle.score_order.specs.Sorting.{in_sort}
use Rattle.score_order.specs.Cells.{in_cells}
use Rattle.score_cell_rules.specs.Tests.{share_in, clash_in, clashes_in, wrong_in, passes_in, RowOrder}
use Rattle.score_cell_rules.specs.Lowest.{any_none}

-- ---- one pass

-- of those below i that count, none begins (g) before an earlier one has ended (f), and all have ended at reach
pub record Clear (S : ℕ → Type 0) (f g : ℕ → ℕ) (i reach : ℕ) : Type 0 where
  pub most : (p : ℕ) → p < i → S p → f p ≤ reach
  pub clear : (p q : ℕ) → p < q → q < i → S p → S q → f p ≤ g q

module _ {S : ℕ → Type 0} {f g : ℕ → ℕ} {i reach n : ℕ} (e : n ≡ suc i) (c : Clear S f g i reach) where
  pub clear-skip : (S i → ⊥) → Clear S f g n reach
  clear-skip h =
      record { most = λ p l s. go p l s (ℕ_discrete p i); clear = λ p q l m s t. to p q l m s t (ℕ_discrete q i) }
    where
      go : (p : ℕ) → p < n → S p → Dec (p ≡ i) → f p ≤ reach
      go p l s (yes d) = absurd (h (rw d at s))
      go p l s (no d) = c.most p (omega arith) s

      to : (p q : ℕ) → p < q → q < n → S p → S q → Dec (q ≡ i) → f p ≤ g q
      to p q l m s t (yes d) = absurd (h (rw d at t))
      to p q l m s t (no d) = c.clear p q l (omega arith) s t

  pub clear-more : (r : ℕ) → reach ≤ g i → reach ≤ r → f i ≤ r → Clear S f g n r
  clear-more r h a b =
      record { most = λ p l s. go p l s (ℕ_discrete p i); clear = λ p q l m s t. to p q l m s t (ℕ_discrete q i) }
    where
      go : (p : ℕ) → p < n → S p → Dec (p ≡ i) → f p ≤ r
      go p l s (yes d) = rw d b
      go p l s (no d) = omega (arith, c.most p (omega arith) s)

      to : (p q : ℕ) → p < q → q < n → S p → S q → Dec (q ≡ i) → f p ≤ g q
      to p q l m s t (yes d) = let x = c.most p (omega arith) s in rw d (omega arith)
      to p q l m s t (no d) = c.clear p q l (omega arith) s t

-- ---- what the tests say

-- every cell of the list ends at or before the site of each that follows
pub record InLine (stands : List Stand) (list : List ℕ) : Type 0 where
  pub ahead : (p q : ℕ) → p < q → q < length list → end_in stands (get_or list p 0) ≤ site_in stands (get_or list q 0)

-- of any two cells that stand in a row, one ends at or before the other's site
pub record RowClear (stands : List Stand) (row : ℕ) : Type 0 where
  pub apart : (a b : ℕ) → a < length stands → b < length stands
      → stands_in row (row_in stands a) ≡ true → stands_in row (row_in stands b) ≡ true → a ≢ b
      → (end_in stands a ≤ site_in stands b) ⊎ (end_in stands b ≤ site_in stands a)

-- the sites of tall cells do not fall in file order
pub record TallRising (stands : List Stand) : Type 0 where
  pub rising : (a b : ℕ) → a < b → b < length stands → row_in stands a ≡ 2 → row_in stands b ≡ 2 → site_in stands a ≤ site_in stands b

-- ---- rule 4: each cell of a row is an entry of its order

module _ {stands : List Stand} {order : List ℕ} {row : ℕ} (o : RowOrder stands row order) where
  in_order : (k : ℕ) → k < length stands → stands_in row (row_in stands k) ≡ true → (p : ℕ) × (p < length order) × (get_or order p 0 ≡ k)
  in_order k h s =
      let m = in_sort (site_in stands) (row_in_file stands row) (in_cells stands row (length stands) k h s) in
      index_of order (rw o.same m)

  pub row-clear : InLine stands order → RowClear stands row
  row-clear l = record { apart = λ a b h g s r d. go a b d (in_order a h s) (in_order b g r) }
    where
      go : (a b : ℕ) → a ≢ b → (p : ℕ) × (p < length order) × (get_or order p 0 ≡ a)
          → (p : ℕ) × (p < length order) × (get_or order p 0 ≡ b)
          → (end_in stands a ≤ site_in stands b) ⊎ (end_in stands b ≤ site_in stands a)
      go a b d x y = to (ℕ_discrete x.0 y.0) (leb x.0 y.0) (le? x.0 y.0)
        where
          to : Dec (x.0 ≡ y.0) → (t : Bool) → Le? x.0 y.0 t
              → (end_in stands a ≤ site_in stands b) ⊎ (end_in stands b ≤ site_in stands a)
          to (yes e) b' c = absurd (d (sym x.2 ∙ ap (λ p. get_or order p 0) e ∙ y.2))
          to (no e) true (low h) = inl (rw (x.2, y.2) at (l.ahead x.0 y.0 (omega arith) y.1))
          to (no e) false (high h) = inr (rw (y.2, x.2) at (l.ahead y.0 x.0 (omega arith) x.1))

-- cells of two row numbers stand in row 0 both, or in row 1
abbrev Both : ℕ → ℕ → Type 0
Both a b = ((stands_in 0 a && stands_in 0 b) ≡ true) ⊎ ((stands_in 1 a && stands_in 1 b) ≡ true)

share-cases : (a b : ℕ) → share_in a b ≡ true → Both a b
unfolding share_in
share-cases a b e = go (stands_in 0 a && stands_in 0 b) (stands_in 1 a && stands_in 1 b) e
  where
    go : (x y : Bool) → (x || (y || false)) ≡ true → (x ≡ true) ⊎ (y ≡ true)
    go true y e = inl refl
    go false true e = inr refl
    go false false e = absurd (false≢true e)

module _ (stands : List Stand) (c₀ : RowClear stands 0) (c₁ : RowClear stands 1) where
  -- cells that share a row are apart in it
  shared : (k b : ℕ) → k < length stands → b < length stands → k ≢ b → Both (row_in stands k) (row_in stands b)
      → (end_in stands k ≤ site_in stands b) ⊎ (end_in stands b ≤ site_in stands k)
  shared k b h g d (inl e) =
      let s = (and-eq-true_iff (stands_in 0 (row_in stands k)) (stands_in 0 (row_in stands b))).0 e in
      c₀.apart k b h g s.0 s.1 d
  shared k b h g d (inr e) =
      let s = (and-eq-true_iff (stands_in 1 (row_in stands k)) (stands_in 1 (row_in stands b))).0 e in
      c₁.apart k b h g s.0 s.1 d

  no-clash : (k b : ℕ) → k < length stands → b < length stands → clash_in stands k b ≡ false
  unfolding clash_in
  no-clash k b h g =
      go (eqb b k) (eq? b k) (share_in (row_in stands k) (row_in stands b)) (share-cases (row_in stands k) (row_in stands b))
    where
      far : (end_in stands k ≤ site_in stands b) ⊎ (end_in stands b ≤ site_in stands k)
          → (ltb (site_in stands k) (end_in stands b) && ltb (site_in stands b) (end_in stands k)) ≡ false
      far (inl l) = rw (le-ltb (site_in stands b) (end_in stands k) l) (and-false (ltb (site_in stands k) (end_in stands b)))
      far (inr l) = rw (le-ltb (site_in stands k) (end_in stands b) l)

      go : (t : Bool) → Eq? b k t → (s : Bool) → (s ≡ true → Both (row_in stands k) (row_in stands b))
          → (not t && (s && ltb (site_in stands k) (end_in stands b) && ltb (site_in stands b) (end_in stands k))) ≡ false
      go true (same e) s f = refl
      go false (differs d) false f = refl
      go false (differs d) true f = far (shared k b h g (λ e. d (sym e)) (f refl))

  pub no_clashes : (k : ℕ) → k < length stands → clashes_in stands k ≡ false
  unfolding clashes_in
  no_clashes k h = any_none (clash_in stands k) 0 (length stands) (λ b _ g. no-clash k b h (omega arith))

-- ---- rule 7

-- x is not above y if b is below k
not-wrong : (b k x y : ℕ) → (b < k → x ≤ y) → (ltb b k && ltb y x) ≡ false
not-wrong b k x y f = go (leb (suc b) k) (le? (suc b) k)
  where
    go : (t : Bool) → Le? (suc b) k t → (t && ltb y x) ≡ false
    go true (low h) = le-ltb y x (f (omega arith))
    go false (high h) = refl

module _ (stands : List Stand) (c : TallRising stands) where
  right_side : (k b : ℕ) → k < length stands → b < length stands → row_in stands k ≡ 2 → (t : Bool) → Eq? (row_in stands b) 2 t
      → wrong_in stands k b ≡ false
  unfolding wrong_in
  right_side k b h g s false (differs d) = rw (ne_eqb (row_in stands b) 2 d)
  right_side k b h g s true (same e) = rw (
    eq-eqb (row_in stands b) 2 e,
    not-wrong b k (site_in stands b) (site_in stands k) (λ l. c.rising b k l h e s),
    not-wrong k b (site_in stands k) (site_in stands b) (λ l. c.rising k b l g s e),
  )

  pub none_passed : (k : ℕ) → k < length stands → passes_in stands k ≡ false
  unfolding passes_in
  none_passed k h = go (eqb (row_in stands k) 2) (eq? (row_in stands k) 2)
    where
      go : (t : Bool) → Eq? (row_in stands k) 2 t → (t && any (wrong_in stands k) (from 0 (length stands))) ≡ false
      go false (differs d) = refl
      go true (same e) =
          any_none (wrong_in stands k) 0 (length stands)
          (λ b _ g. right_side k b h (omega arith) e (eqb (row_in stands b) 2) (eq? (row_in stands b) 2))
