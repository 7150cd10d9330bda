-- The states of a digit and marks: just those in which a cell can have been
-- placed last, and each has one source of marks.
use Rattle.std.specs.Prelude.{◌≡◌, refl, ◌↔◌, map, Bool, true, false, ◌&&◌, ◌||◌, ℕ, zero, suc, ◌+◌, ◌-◌, ◌*◌, ◌/◌, ◌%◌, ◌^◌, ◌≤◌, ◌<◌, length, get_or, eqb}
use Rattle.std.proofs.Common.{sym, ap, ap₂, ◌∙◌, subst}
use mathlib.Core.List.Memᴰ.{head as here}
use mathlib.Core.List.{List, [], ◌∷◌, Memᴰ as In}
use mathlib.Core.List.Memᴰ
use mathlib.Core.List.Memᴰ.{tail as there}
use native.Mathlib.Omega.{arith}
use Rattle.std.proofs.Math.Decide.{ℕ_discrete}
use Rattle.std.specs.Int.Count.{ones}
use Rattle.lists.specs.Compare.{Eq?, same, differs, eq?}
use Rattle.lists.specs.Numbers.{from, in_from, from_in}
use Rattle.theory_row.specs.Marks.{bit, bit-set, bit-keep, bit-lt}
use Rattle.theory_row.specs.Window.{step, May, Good}
use Rattle.theory_row.proofs.Window.{good-step}
use Rattle.theory_pair.specs.Forward.{each, in_each, each_in}
use Rattle.theory_pair.specs.Pick.{pick, pick_in, in_pick, good_marks}
use Rattle.theory_pair.proofs.Pick.{in_good_marks}
use Rattle.theory_tables.specs.Steps.{may_be_last, pairs_of, state_count, offset, marks, marks_before}

-- digit d of the marks m can be the cell placed last
pub record IsState (R d m : ℕ) : Type 0 where
  pub good : Good R m
  pub far : d ≤ 2 * R
  pub set : bit m d ≡ 1
  pub top : bit m (2 * R) ≡ 1 → d ≡ 2 * R

-- ---- entries of a list by their index

get_d_in : {S : Type 0} (e : S) (l : List S) (q : ℕ) → q < length l → In (get_or l q e) l
get_d_in e [] q h = absurd (omega arith)
get_d_in e (x ∷ l) zero h = here refl
get_d_in e (x ∷ l) (suc q) h = there (get_d_in e l q (omega arith))

in_get_d : {S : Type 0} {x : S} (e : S) (l : List S) → In x l → (q : ℕ) × (q < length l) × (get_or l q e ≡ x)
in_get_d {S = S} e [] x'' = elim x'' [ ]
in_get_d e (y ∷ l) (here z) = (0, omega arith, sym z)
in_get_d e (y ∷ l) (there m) = let r = in_get_d e l m in let h = r.1 in (suc r.0, omega arith, r.2)

-- ---- the test

may_last : (R d m : ℕ) → may_be_last R m d ≡ true → (bit m d ≡ 1) × (bit m (2 * R) ≡ 1 → d ≡ 2 * R)
may_last R d m e = go (eqb (bit m d) 1) (eqb (bit m (2 * R)) 0) (eqb d (2 * R)) (eq? (bit m d) 1)
    (eq? (bit m (2 * R)) 0) (eq? d (2 * R)) e
  where
    go : (t u v : Bool) → Eq? (bit m d) 1 t → Eq? (bit m (2 * R)) 0 u → Eq? d (2 * R) v → (t && (u || v)) ≡ true
        → (bit m d ≡ 1) × (bit m (2 * R) ≡ 1 → d ≡ 2 * R)
    go true true v (same a) (same b) c e = (a, λ z. absurd (omega arith))
    go true false true (same a) b (same c) e = (a, λ z. c)
    go true false false a b c e = absurd (let z : ◌≡◌ {A = ℕ} 0 1 = cc in omega arith)
    go false u v a b c e = absurd (let z : ◌≡◌ {A = ℕ} 0 1 = cc in omega arith)

last_may : (R d m : ℕ) → IsState R d m → may_be_last R m d ≡ true
last_may R d m p = go (eqb (bit m d) 1) (eqb (bit m (2 * R)) 0) (eqb d (2 * R)) (eq? (bit m d) 1)
    (eq? (bit m (2 * R)) 0) (eq? d (2 * R))
  where
    go : (t u v : Bool) → Eq? (bit m d) 1 t → Eq? (bit m (2 * R)) 0 u → Eq? d (2 * R) v → (t && (u || v)) ≡ true
    go true true v a b c = refl
    go true false true a b c = refl
    go true false false a (differs b) (differs c) = absurd (c (p.top (let z = bit-lt (2 * R) m in omega arith)))
    go false u v (differs a) b c = absurd (a p.set)

-- ---- the list has all states, and no more

pub in_pairs : (R d m : ℕ) → In (d, m) (pairs_of R) ↔ IsState R d m
unfolding pairs_of
in_pairs R d m = (there-is, λ p. there_in_lem p)
  where
    there-is : In (d, m) (pairs_of R) → IsState R d m
    there-is i =
        let a = each_in (good_marks R) _ i in
        let b = Memᴰ.of_map _ (pick (may_be_last R a.0) (from 0 (suc (2 * R)))) a.2 in
        let c = pick_in (may_be_last R a.0) (from 0 (suc (2 * R))) b.1 in
        let h = in_from 0 (suc (2 * R)) c.0 in
        let e = may_last R b.0 a.0 c.1 in
        let z : IsState R b.0 a.0 =
        record { good = (in_good_marks R a.0).0 a.1; far = omega arith; set = e.0; top = e.1 } in
        subst (λ (x : ℕ × ℕ). IsState R x.0 x.1) b.2 z

    there_in_lem : IsState R d m → In (d, m) (pairs_of R)
    there_in_lem p =
        let h = p.far in
        in_each (good_marks R) _ ((in_good_marks R m).1 p.good)
        (Memᴰ.map (λ x. (x, m)) (in_pick (may_be_last R m)
        (from 0 (suc (2 * R))) (from_in d 0 (suc (2 * R)) (omega arith) (omega arith)) (last_may R d m p)))

pub state-at : (R q : ℕ) → q < state_count R → IsState R (offset R q) (marks R q)
state-at R q h = (in_pairs R (offset R q) (marks R q)).0 (get_d_in (0, 0) (pairs_of R) q h)

pub at-state : (R d m : ℕ) → IsState R d m → (q : ℕ) × (q < state_count R) × (offset R q ≡ d) × (marks R q ≡ m)
at-state R d m p =
    let r = in_get_d (0, 0) (pairs_of R) ((in_pairs R d m).1 p) in
    (r.0, r.1, ap (λ x. x.0) r.2, ap (λ x. x.1) r.2)

-- ---- how many there are, for every R that a search may have

pub state-counts : map state_count (0 ∷ 1 ∷ 2 ∷ []) ≡ (1 ∷ 3 ∷ 12 ∷ [])
unfolding pairs_of good_marks each pick from bit ones
state-counts = refl

pub record Counted (R : ℕ) : Type 0 where
  pub some : 1 ≤ state_count R
  pub few : state_count R ≤ 12
  pub fewer : R ≤ 1 → state_count R ≤ 3

pub counted : (R : ℕ) → R ≤ 2 → Counted R
counted = go
  where
    counts : (n : ℕ) → get_or (map state_count (0 ∷ 1 ∷ 2 ∷ [])) n 0 ≡ get_or (1 ∷ 3 ∷ 12 ∷ []) n 0
    counts n = ap (λ (l : List ℕ). get_or l n 0) state-counts

    go : (R : ℕ) → R ≤ 2 → Counted R
    go zero h =
        record { some = omega (arith, counts 0); few = omega (arith, counts 0); fewer = λ e. omega (arith, counts 0) }
    go (suc zero) h =
        record { some = omega (arith, counts 1); few = omega (arith, counts 1); fewer = λ e. omega (arith, counts 1) }
    go (suc (suc zero)) h =
        record { some = omega (arith, counts 2); few = omega (arith, counts 2); fewer = λ e. absurd (omega arith) }
    go (suc (suc (suc R))) h = absurd (omega arith)

-- ---- digits

bit-over : (j m : ℕ) → m < 2 ^ j → bit m j ≡ 0
unfolding bit
bit-over zero m h = omega arith
bit-over (suc j) m h = bit-over j (m / 2) (omega arith)

bit-clear : (d m : ℕ) → bit m d ≡ 1 → (2 ^ d ≤ m) × (bit (m - 2 ^ d) d ≡ 0)
unfolding bit
bit-clear zero m h = (omega arith, omega arith)
bit-clear (suc d) m h =
    let r = bit-clear d (m / 2) h in
    let l = r.0 in
    let e : (m - 2 ^ suc d) / 2 ≡ m / 2 - 2 ^ d = omega arith in
    (omega arith, ap (λ x. bit x d) e ∙ r.1)

-- ---- placing a cell leads to a state, from its only source of marks

module _ (R n i m k : ℕ) where
  pub may_state : Good R m → May R n i m k → IsState R (k + R - i) (step R i m k)
  unfolding step
  may_state g a =
      let l = a.low in
      let h = a.high in
      record {
        good = good-step R n i m k g a;
        far = omega arith;
        set = bit-set (k + R - i) (m / 2) a.free;
        top = λ e. go e (ℕ_discrete (k + R - i) (2 * R));
      }
    where
      go : bit (m / 2 + 2 ^ (k + R - i)) (2 * R) ≡ 1 → Dec (k + R - i ≡ 2 * R) → k + R - i ≡ 2 * R
      go e (yes z) = z
      go e (no z) =
          let s = g.small in
          let x = bit-keep (k + R - i) (2 * R) (m / 2) a.free (λ y. z (sym y)) in
          let y = bit-over (2 * R) (m / 2) (omega arith) in
          absurd (omega arith)

  pub may_before : m % 2 ≡ 1 → May R n i m k → m ≡ marks_before (k + R - i) (step R i m k)
  unfolding step
  may_before o a = omega arith

pub before_may : (R n i k d m : ℕ) → IsState R d m → k + R ≡ i + d → k < n
    → May R n i (marks_before d m) k × (step R i (marks_before d m) k ≡ m)
unfolding step
before_may R n i k d m p e h = (
  record { inside = h; low = omega arith; high = omega arith; free = free; kept = ap (λ x. x % 2) back ∙ p.good.odd },
  back,
)
  where
    far : d ≤ 2 * R
    far = p.far

    digit : k + R - i ≡ d
    digit = omega arith

    half : marks_before d m / 2 ≡ m - 2 ^ d
    half = omega arith

    free : bit (marks_before d m / 2) (k + R - i) ≡ 0
    free = ap₂ bit half digit ∙ (bit-clear d m p.set).1

    back : marks_before d m / 2 + 2 ^ (k + R - i) ≡ m
    back = let l = (bit-clear d m p.set).0 in let z = ap (λ x. 2 ^ x) digit in omega (arith, half)
