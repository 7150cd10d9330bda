-- Rule 5, neighbours from the right: who is beside one empty site, and their marks.
use Rattle.std.specs.Prelude.{ℕ, ◌+◌, ◌-◌, ◌≤◌, ◌<◌, ◌≡◌, Bool, true, ◌&&◌, ◌||◌, List, [], ◌∷◌, length, get_or, take, drop, set, eqb}
use Rattle.std.proofs.Math.Path.{refl}
use Rattle.std.proofs.Common.{sym, ap, ap₂, ◌∙◌, arith, length-set, length-drop, get_or-drop, get_or-take, get_or-set_same, get_or-set_other, eq-eqb, ne_eqb}
use Rattle.std.proofs.Math.Bool.{false}
use Rattle.std.proofs.Math.Decide.{ℕ_discrete}
use Rattle.definition.specs.Rules.{forbidden_gap, is_forbidden}
use Rattle.score_order.specs.declared.Stand.{Stand}
use Rattle.score_order.specs.Below.{below_at}
use Rattle.score_order.specs.Words.{site_in, end_in}
use Rattle.score_cell_rules.specs.Marks.{marked_in, Added}
use Rattle.score_row_rules.specs.Tests.{one_site, near_in, AlongRow}

-- ---- the neighbours in a list

module _ (stands : List Stand) (k : ℕ) where
  near-none : (l : List ℕ) → length l < 2 → near_in stands l k ≡ false
  unfolding near_in
  near-none [] h = refl
  near-none (a ∷ []) h = refl
  near-none (a ∷ b ∷ l) h = absurd (omega arith)

  near-more : (l : List ℕ) → 2 ≤ length l
      → near_in stands l k ≡ (one_site stands k (get_or l 0 0) (get_or l 1 0) || near_in stands (drop 1 l) k)
  unfolding near_in
  near-more [] h = absurd (omega arith)
  near-more (a ∷ []) h = absurd (omega arith)
  near-more (a ∷ b ∷ l) h = refl

-- the test of two neighbours, by their gap
site-one : (stands : List Stand) (k a b : ℕ) → site_in stands b - end_in stands a ≡ forbidden_gap
    → one_site stands k a b ≡ (eqb k a || eqb k b)
site-one stands k a b e = go (eqb k a || eqb k b)
  where
    go : (t : Bool) → (t && is_forbidden (site_in stands b - end_in stands a)) ≡ t
    go true = eq-eqb (site_in stands b - end_in stands a) forbidden_gap e
    go false = refl

site-other : (stands : List Stand) (k a b : ℕ) → (site_in stands b - end_in stands a ≡ forbidden_gap → ⊥)
    → one_site stands k a b ≡ false
site-other stands k a b d = go (eqb k a || eqb k b)
  where
    go : (t : Bool) → (t && is_forbidden (site_in stands b - end_in stands a)) ≡ false
    go true = ne_eqb (site_in stands b - end_in stands a) forbidden_gap d
    go false = refl

-- ---- marks

-- two cells more
two-marked : (m : List Bool) (a b k : ℕ) → a < length m → b < length m
    → marked_in (set (set m a true) b true) k ≡ ((eqb k a || eqb k b) || marked_in m k)
two-marked m a b k la lb = go (ℕ_discrete k a) (ℕ_discrete k b)
  where
    lc : b < length (set m a true)
    lc = simp length-set lb

    go : Dec (k ≡ a) → Dec (k ≡ b) → marked_in (set (set m a true) b true) k ≡ ((eqb k a || eqb k b) || marked_in m k)
    go (yes e) (yes q) = rw (q, get_or-set_same (set m a true) b true false lc, eq-eqb b a (sym q ∙ e))
    go (yes e) (no d) =
        rw (get_or-set_other (set m a true) b k true false d, eq-eqb k a e) (rw (e, get_or-set_same m a true false la))
    go (no d) (yes q) = rw (q, get_or-set_same (set m a true) b true false lc, ne_eqb b a (λ x. d (q ∙ x)), eq-eqb b b refl)
    go (no d) (no c) =
        rw (get_or-set_other (set m a true) b k true false c, get_or-set_other m a k true false d, ne_eqb k a d, ne_eqb k b c)

-- the neighbours in `rest`, which ends the order, are still to be judged
pub record Judging (stands : List Stand) (order rest : List ℕ) (marks marks' : List Bool) : Type 0 where
  pub long : length marks' ≡ length marks
  pub cells : (i : ℕ) → i < length rest → get_or rest i 0 < length marks
  pub each : (k : ℕ) → (near_in stands order k || marked_in marks k) ≡ (near_in stands rest k || marked_in marks' k)

pub judging_all : (stands : List Stand) (order : List ℕ) (m : List Bool) → AlongRow stands order m → Judging stands order order m m
judging_all stands order m a =
    record { long = refl; cells = λ i h. rw a.marks (below_at (length stands) order i a.cells h); each = λ k. refl }

module _ {stands : List Stand} {order rest : List ℕ} {m m' : List Bool} (j : Judging stands order rest m m') where
  pub judged_all : length rest < 2 → Added (near_in stands order) m m'
  judged_all h = record {
    long = j.long;
    each = λ k _. sym (j.each k ∙ ap (λ t. t || marked_in m' k) (near-none stands k rest h));
  }

  -- the next two neighbours are w
  module _ {n : ℕ} {w rest' : List ℕ} (two : n ≡ 2) (h : n ≤ length rest) (ew : w ≡ take n rest) (er : rest' ≡ drop 1 rest) where
    a : ℕ
    a = get_or w 0 0

    b : ℕ
    b = get_or w 1 0

    same_a : a ≡ get_or rest 0 0
    unfolding a
    same_a = rw ew (get_or-take n rest 0 0 (omega arith))

    same_b : b ≡ get_or rest 1 0
    unfolding b
    same_b = rw ew (get_or-take n rest 1 0 (omega arith))

    cells : (i : ℕ) → i < length rest' → get_or rest' i 0 < length m
    cells i l =
        let g : i < length rest - 1 = rw (er, length-drop) at l in
        rw (er, get_or-drop 1 rest i 0) (j.cells (1 + i) (omega arith))

    pair : (k : ℕ) → near_in stands rest k ≡ (one_site stands k a b || near_in stands rest' k)
    pair k =
        near-more stands k rest (omega arith)
        ∙ ap₂ (λ x y. one_site stands k x y || near_in stands (drop 1 rest) k) (sym same_a) (sym same_b)
        ∙ ap (λ l. one_site stands k a b || near_in stands l k) (sym er)

    swapped : (s t x : Bool) → ((s || t) || x) ≡ (t || (s || x))
    swapped true true x = refl
    swapped true false x = refl
    swapped false t x = refl

    pub judged-hit : site_in stands (get_or w 1 0) - end_in stands (get_or w 0 0) ≡ forbidden_gap
        → Judging stands order rest' m (set (set m' (get_or w 0 0) true) (get_or w 1 0) true)
    unfolding a b
    judged-hit e = record {
      long = simp length-set j.long;
      cells = cells;
      each = λ k. j.each k
          ∙ ap (λ t. t || marked_in m' k) (pair k ∙ ap (λ t. t || near_in stands rest' k) (site-one stands k a b e))
          ∙ swapped (eqb k a || eqb k b) (near_in stands rest' k) (marked_in m' k)
          ∙ ap (λ t. near_in stands rest' k || t)
          (sym
          (two-marked m' a b k (omega (arith, j.long, same_a, j.cells 0 (omega arith))) (omega (arith, j.long, same_b, j.cells 1 (omega arith)))));
    }

    pub judged-miss : (site_in stands (get_or w 1 0) - end_in stands (get_or w 0 0) ≡ forbidden_gap → ⊥)
        → Judging stands order rest' m m'
    unfolding a b
    judged-miss d = record {
      long = j.long;
      cells = cells;
      each = λ k. j.each k
          ∙ ap (λ t. t || marked_in m' k) (pair k ∙ ap (λ t. t || near_in stands rest' k) (site-other stands k a b d));
    }
