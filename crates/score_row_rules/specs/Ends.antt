-- Rule 8, a row's ends: which cells are at one empty site there, and their marks.
use Rattle.std.specs.Prelude.{ℕ, zero, suc, ◌-◌, ◌<◌, ◌≡◌, refl, Bool, false, ◌&&◌, List, [], ◌∷◌, length, get_or, set}
use Rattle.std.proofs.Common.{sym, ◌∙◌, arith, length-set, get_or-set_same, get_or-set_other, eq-eqb, ne_eqb}
use Rattle.std.proofs.Math.Path.{ap, ap₂}
use Rattle.std.proofs.Math.Bool.{◌||◌, or_comm, or-false}
use Rattle.std.proofs.Math.Decide.{ℕ_discrete}
use Rattle.std.proofs.Math.Dec.{eqb}
use Rattle.definition.specs.Rules.{is_forbidden, is_first, is_last}
use Rattle.score_order.specs.declared.Stand.{Stand}
use Rattle.score_order.specs.Words.{site_in, end_in}
use Rattle.score_cell_rules.specs.Marks.{marked_in, Added, added-both, added-below}
use Rattle.score_row_rules.specs.Tests.{one_cell, at_end_in}

-- ---- who is at an end

-- the last of a list is its last entry
last-is : (k : ℕ) (l : List ℕ) (n : ℕ) → length l ≡ suc n → is_last k l ≡ eqb k (get_or l n 0)
unfolding is_last
last-is k [] n e = absurd (omega arith)
last-is k (a ∷ []) zero e = refl
last-is k (a ∷ []) (suc n) e = absurd (omega arith)
last-is k (a ∷ b ∷ l) zero e = absurd (omega arith)
last-is k (a ∷ b ∷ l) (suc n) e = last-is k (b ∷ l) n (omega arith)

first-is : (k : ℕ) (l : List ℕ) → 0 < length l → is_first k l ≡ eqb k (get_or l 0 0)
unfolding is_first
first-is k [] h = absurd (omega arith)
first-is k (a ∷ l) h = refl

-- a test of k, where k is a
at-cell : (f : ℕ → Bool) (k a : ℕ) → (eqb k a && f k) ≡ one_cell a (f a) k
at-cell f k a = go (ℕ_discrete k a)
  where
    go : Dec (k ≡ a) → (eqb k a && f k) ≡ (eqb k a && f a)
    go (yes e) = ap (λ x. eqb k a && f x) e
    go (no d) = rw (ne_eqb k a d)

module _ (stands : List Stand) (l : List ℕ) (sites : ℕ) where
  -- an empty row is free
  pub end_none : (k : ℕ) → length l ≡ 0 → at_end_in stands sites l k ≡ false
  unfolding at_end_in is_first is_last
  end_none k h = go l h
    where
      go : (l : List ℕ) → length l ≡ 0 → ((is_first k l && is_forbidden (site_in stands k)) || (is_last k l && is_forbidden (sites - end_in stands k))) ≡ false
      go [] h = refl
      go (a ∷ l) h = absurd (omega arith)

  module _ (a b n : ℕ) (e : length l ≡ suc n) (ea : a ≡ get_or l 0 0) (eb : b ≡ get_or l n 0) where
    -- the first cell, and the last
    end-cells : (k : ℕ) → at_end_in stands sites l k
        ≡ (one_cell a (is_forbidden (site_in stands a)) k || one_cell b (is_forbidden (sites - end_in stands b)) k)
    unfolding at_end_in
    end-cells k = ap₂ ◌||◌ first last
      where
        first : (is_first k l && is_forbidden (site_in stands k)) ≡ one_cell a (is_forbidden (site_in stands a)) k
        first =
            ap (λ t. t && is_forbidden (site_in stands k)) (first-is k l (omega arith) ∙ ap (eqb k) (sym ea))
            ∙ at-cell (λ x. is_forbidden (site_in stands x)) k a

        last : (is_last k l && is_forbidden (sites - end_in stands k)) ≡ one_cell b (is_forbidden (sites - end_in stands b)) k
        last =
            ap (λ t. t && is_forbidden (sites - end_in stands k)) (last-is k l n e ∙ ap (eqb k) (sym eb))
            ∙ at-cell (λ x. is_forbidden (sites - end_in stands x)) k b

    -- the first has been marked, and then the last
    pub ends-marked : (f g : ℕ) (m₀ m₁ m₂ : List Bool) → f ≡ site_in stands a → g ≡ sites - end_in stands b
        → Added (one_cell a (is_forbidden f)) m₀ m₁ → Added (one_cell b (is_forbidden g)) m₁ m₂
        → Added (at_end_in stands sites l) m₀ m₂
    ends-marked f g m₀ m₁ m₂ ef eg p q =
        let first : ℕ → Bool = one_cell a (is_forbidden f) in
        let last : ℕ → Bool = one_cell b (is_forbidden g) in
        added-below (λ k. first k || (last k || false)) (at_end_in stands sites l) m₀ m₂
        (λ k _.
        ap₂ ◌||◌ (ap (λ x. one_cell a (is_forbidden x) k) ef) (or-false (last k) ∙ ap (λ x. one_cell b (is_forbidden x) k) eg)
        ∙ sym (end-cells k))
        (added-both first last m₀ m₁ m₂ p q)

-- one cell, which breaks a rule or not
pub cell-marked : (a : ℕ) (breaks : Bool) (m : List Bool) → a < length m → Added (one_cell a breaks) m (set m a (marked_in m a || breaks))
cell-marked a breaks m h = record { long = simp length-set refl; each = λ k _. go k (ℕ_discrete k a) }
  where
    go : (k : ℕ) → Dec (k ≡ a) → marked_in (set m a (marked_in m a || breaks)) k ≡ ((eqb k a && breaks) || marked_in m k)
    go k (yes e) = rw (e, get_or-set_same m a (marked_in m a || breaks) false h, eq-eqb a a refl) (or_comm (marked_in m a) breaks)
    go k (no d) = rw (get_or-set_other m a k (marked_in m a || breaks) false d, ne_eqb k a d)
