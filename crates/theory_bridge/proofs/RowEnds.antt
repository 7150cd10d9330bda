-- Rule 8, tested cell by cell in the definitions, and stated of each row's first and last cell in the pair's theory:
-- the same. f gives the poses of P.
use Rattle.std.specs.Prelude.{ℕ, ◌+◌, ◌-◌, ◌<◌, ◌≡◌, refl, ◌↔◌, Bool, false, not, ◌&&◌, ◌||◌}
use Rattle.std.proofs.Common.{sym, ◌∙◌, eqb-true, eq-eqb}
use Rattle.std.proofs.Math.Path.{ap, subst}
use Rattle.std.proofs.Math.Bool.{true}
use mathlib.Core.List.Memᴰ.{head as here}
use mathlib.Core.List.Memᴰ.{tail as there}
use mathlib.Core.List.{List, [], ◌∷◌, Memᴰ as In}
use Rattle.std.proofs.lemmas.Bool.{not-true}
use Rattle.std.proofs.Math.ListN.{length}
use Rattle.definition.specs.Job.{Job}
use Rattle.definition.specs.Placement.{Pose, Placement}
use Rattle.definition.specs.Rules.{Holds, order, is_forbidden, is_first, is_last, gap_before, gap_after}
use Rattle.definition.specs.Rules.{at_one_site_end, breaks8}
use Rattle.definition_laws.specs.Sound.{Sound}
use Rattle.theory_pair.specs.Ends.{Ended, last_from}
use Rattle.theory_pair.specs.Cells.{Side, row_order, RowEnded}
use Rattle.theory_bridge.specs.Paired.{row_of, site_of, layout_of, width_of, end_allowed, opens_of, closes_of, pair_job}
use Rattle.theory_bridge.proofs.Tests.{and-false, or-false, any-row}
use Rattle.theory_bridge.proofs.Row.{Gives, order_same, ordered-below}

-- any number of sites but one may be empty at a row's end
pub end_allowed_lem : (gap : ℕ) → end_allowed gap ≡ true ↔ (is_forbidden gap ≡ false)
unfolding end_allowed
end_allowed_lem gap = (not-true (is_forbidden gap), λ e. ap not e)

-- ---- the first and the last of a list that has some

first-is : (k a : ℕ) (l : List ℕ) → is_first k (a ∷ l) ≡ true → k ≡ a
unfolding is_first
first-is k a l e = eqb-true k a e

is-first : (a : ℕ) (l : List ℕ) → is_first a (a ∷ l) ≡ true
unfolding is_first
is-first a l = eq-eqb a a refl

last-is : (k a : ℕ) (l : List ℕ) → is_last k (a ∷ l) ≡ true → k ≡ last_from a l
unfolding is_last
last-is k a [] e = eqb-true k a e
last-is k a (b ∷ l) e = last-is k b l e

is-last : (a : ℕ) (l : List ℕ) → is_last (last_from a l) (a ∷ l) ≡ true
unfolding is_last
is-last a [] = eq-eqb a a refl
is-last a (b ∷ l) = is-last b l

last_in_lem : (a : ℕ) (l : List ℕ) → In (last_from a l) (a ∷ l)
last_in_lem a [] = here refl
last_in_lem a (b ∷ l) = there (last_in_lem b l)

-- ---- rule 8

module _ (j : Job) (sound : Sound j) (P : Placement) (f : ℕ → Pose) (g : Gives P (length j.cells) f) where
  opens-test : (k : ℕ) → k < length j.cells → opens_of j k (f k) ≡ true ↔ (is_forbidden (gap_before P k) ≡ false)
  opens-test k h =
      subst (λ (x : ℕ). opens_of j k (f k) ≡ true ↔ (is_forbidden x ≡ false)) (sym (ap site_of (g k h)))
      (end_allowed_lem (site_of (f k)))

  closes-test : (k : ℕ) → k < length j.cells → closes_of j k (f k) ≡ true ↔ (is_forbidden (gap_after j P k) ≡ false)
  unfolding width_of
  closes-test k h =
      subst (λ (x : Pose).
      closes_of j k (f k) ≡ true ↔ (is_forbidden (j.header.sites - (x.site + (layout_of j k x).width)) ≡ false))
      (sym (g k h)) (end_allowed_lem _)

  -- the tests of a row whose order is l
  module _ (s : Side) where
    abbrev cells : List ℕ
    cells = order j P (row_of s)

    abbrev at_front : ℕ → Bool
    at_front k = is_first k cells && is_forbidden (gap_before P k)

    abbrev at_back : ℕ → Bool
    at_back k = is_last k cells && is_forbidden (gap_after j P k)

    abbrev Free : Type 0
    Free = (k : ℕ) → k < length j.cells → (at_front k || at_back k) ≡ false

    abbrev EndsAllowed : List ℕ → Type 0
    EndsAllowed l = Ended (λ k. opens_of j k (f k)) (λ k. closes_of j k (f k)) l

    ends_same : (l : List ℕ) → cells ≡ l → Free ↔ EndsAllowed l
    unfolding is_first is_last
    ends_same [] e = (
      λ h. tt,
      λ t k h. ap (λ m. (is_first k m && is_forbidden (gap_before P k)) || (is_last k m && is_forbidden (gap_after j P k))) e,
    )
    ends_same (a ∷ l) e = (to, back)
      where
        below : (k : ℕ) → In k (a ∷ l) → k < length j.cells
        below k m = ordered-below j sound P f g s k (subst (λ x. In k x) (sym e) m)

        z : ℕ
        z = last_from a l

        to : Free → EndsAllowed (a ∷ l)
        to h =
            let u = below a (here refl) in
            let v = below z (last_in_lem a l) in
            let front = ((or-false (at_front a) (at_back a)).0 (h a u)).0 in
            let back = ((or-false (at_front z) (at_back z)).0 (h z v)).1 in (
              (opens-test a u).1
                  ((and-false (is_first a cells) (is_forbidden (gap_before P a))).0 front
                  (ap (is_first a) e ∙ is-first a l)),
              (closes-test z v).1
                  ((and-false (is_last z cells) (is_forbidden (gap_after j P z))).0 back (ap (is_last z) e ∙ is-last a l)),
            )

        back : EndsAllowed (a ∷ l) → Free
        back c k h = (or-false (at_front k) (at_back k)).1 (
          (and-false (is_first k cells) (is_forbidden (gap_before P k))).1
              (λ q. (opens-test k h).0 (subst (λ (x : ℕ). opens_of j x (f x) ≡ true)
              (sym (first-is k a l (sym (ap (is_first k) e) ∙ q))) c.0)),
          (and-false (is_last k cells) (is_forbidden (gap_after j P k))).1
              (λ q. (closes-test k h).0 (subst (λ (x : ℕ). closes_of j x (f x) ≡ true)
              (sym (last-is k a l (sym (ap (is_last k) e) ∙ q))) c.1)),
        )

  pub rule8_same : Holds j (breaks8 j P) ↔ ((s : Side) → RowEnded site_of (pair_job j) f s)
  unfolding breaks8 at_one_site_end
  rule8_same = (
    λ h s. (ends_same s (row_order site_of (pair_job j) f s) (order_same j sound P f g s)).0
        (λ k b. (any-row (λ row. at_one_site_end j P row k)).0 (h k b) s),
    λ c k b. (any-row (λ row. at_one_site_end j P row k)).1
        (λ s. (ends_same s (row_order site_of (pair_job j) f s) (order_same j sound P f g s)).1 (c s) k b),
  )
