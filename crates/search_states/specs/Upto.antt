-- The words of the states while they are written: those below a count are right, and the others are still
-- to come, marks by marks and digit by digit.
use Rattle.std.specs.Prelude.{ℕ, zero, suc, ◌+◌, ◌*◌, ◌/◌, ◌%◌, ◌^◌, ◌≤◌, ◌<◌, ◌≡◌, refl, Bool, true, false, ◌&&◌, ◌||◌, cond, List, [], ◌∷◌, ◌++◌, map, eqb, length, get_or, drop, set}
use Rattle.std.proofs.Common.{sym, ap, ap₂, ◌∙◌, arith, below_more, lit≤, length-set, get_or-set_same, get_or-set_other}
use Rattle.std.proofs.lemmas.Bool.{false≢true}
use Rattle.std.specs.Int.Count.{ones}
use Rattle.definition.specs.Job.{max_reordering}
use Rattle.lists.specs.Compare.{Eq?, same, eq?}
use Rattle.theory_row.specs.Marks.{bit}
use Rattle.theory_pair.specs.Pick.{good_marks}
use Rattle.theory_pair.specs.Forward.{each}
use Rattle.theory_tables.specs.Steps.{B, may_be_last, pairs_of, state_count, offset, marks, marks_before, before}
use Rattle.theory_tables.proofs.States.{state-at, counted}
use Rattle.search_lanes.specs.Store.{Frame, Low}
use Rattle.search_lanes.specs.Laws.{frame-set, low-set}
use Rattle.search_row.specs.Words.{state_at, StateWords, row_length, states_end, states_from}
use Rattle.search_states.specs.Rest.{rest, rest-none, rest_more, rest_all, next, done}

-- m has R + 1 ones, the lowest digit among them
abbrev pub is_marks : ℕ → ℕ → Bool
is_marks R m = eqb (m % 2) 1 && eqb (ones m) (suc R)

-- the states of the marks m from digit d on; of all marks from m on; both in their order
unfoldable pub digits_from : ℕ → ℕ → ℕ → List (ℕ × ℕ)
digits_from R m d = map (λ d. (d, m)) (rest (may_be_last R m) d (suc (2 * R)))

unfoldable pub marks_from : ℕ → ℕ → List (ℕ × ℕ)
marks_from R m = each (rest (is_marks R) m (2 ^ suc (2 * R))) λ m. digits_from R m 0

pub digits-none : (R m d : ℕ) → 2 * R < d → digits_from R m d ≡ []
unfolding digits_from
digits-none R m d h = rw (rest-none (may_be_last R m) d (suc (2 * R)) h)

pub digits_more : (R m d : ℕ) → d ≤ 2 * R
    → digits_from R m d ≡ cond (may_be_last R m d) ((d, m) ∷ digits_from R m (d + 1)) (digits_from R m (d + 1))
unfolding digits_from
digits_more R m d h =
    ap (map (λ d. (d, m))) (rest_more (may_be_last R m) d (suc (2 * R)) (omega arith)) ∙ go (may_be_last R m d)
  where
    go : (t : Bool) → map (λ d. (d, m))
        (cond t (d ∷ rest (may_be_last R m) (d + 1) (suc (2 * R))) (rest (may_be_last R m) (d + 1) (suc (2 * R))))
        ≡ cond t ((d, m) ∷ digits_from R m (d + 1)) (digits_from R m (d + 1))
    go true = refl
    go false = refl

pub marks-none : (R m : ℕ) → 2 ^ suc (2 * R) ≤ m → marks_from R m ≡ []
unfolding marks_from each
marks-none R m h = rw (rest-none (is_marks R) m (2 ^ suc (2 * R)) h)

pub marks-more : (R m : ℕ) → m < 2 ^ suc (2 * R)
    → marks_from R m ≡ cond (is_marks R m) (digits_from R m 0 ++ marks_from R (m + 1)) (marks_from R (m + 1))
unfolding marks_from each
marks-more R m h =
    ap (λ l. each l λ m. digits_from R m 0) (rest_more (is_marks R) m (2 ^ suc (2 * R)) h) ∙ go (is_marks R m)
  where
    go : (t : Bool) → each (cond t (m ∷ rest (is_marks R) (m + 1) (2 ^ suc (2 * R)))
        (rest (is_marks R) (m + 1) (2 ^ suc (2 * R)))) (λ m. digits_from R m 0)
        ≡ cond t (digits_from R m 0 ++ marks_from R (m + 1)) (marks_from R (m + 1))
    go true = refl
    go false = refl

pub marks-all : (R : ℕ) → pairs_of R ≡ marks_from R 0
unfolding pairs_of marks_from good_marks digits_from
marks-all R = simp rest_all

-- ---- words written so far

-- what one state is written as
abbrev pub with_state : List ℕ → ℕ → ℕ → ℕ → List ℕ
with_state row q d m = set (set (set row (state_at q) d) (state_at q + 1) m) (state_at q + 2) (marks_before d m)

-- the first `count` states are written, and `l` is still to come
pub record StatesUpto (R : ℕ) (row : List ℕ) (count : ℕ) (l : List (ℕ × ℕ)) : Type 0 where
  pub long : row_length ≤ length row
  pub below : count ≤ state_count R
  pub left : drop count (pairs_of R) ≡ l
  pub digit : (q : ℕ) → q < count → get_or row (state_at q) 0 ≡ offset R q
  pub mark : (q : ℕ) → q < count → get_or row (state_at q + 1) 0 ≡ marks R q
  pub earlier : (q : ℕ) → q < count → get_or row (state_at q + 2) 0 ≡ before R q
  pub low : Low row

-- the same, with how the row was before: only the words of the states changed
pub record StatesAdded (R : ℕ) (old row : List ℕ) (count : ℕ) (l : List (ℕ × ℕ)) : Type 0 where
  pub upto : StatesUpto R row count l
  pub frame : Frame states_from states_end old row

-- ---- what is given

-- room for all states
pub record StatesRoom (R : ℕ) (row : List ℕ) : Type 0 where
  pub reorder : R ≤ max_reordering
  pub long : row_length ≤ length row
  pub low : Low row

-- while m is looked at as marks: `count` states are written, and `l` is still to come
pub record Coming (R : ℕ) (row : List ℕ) (count m : ℕ) (l : List (ℕ × ℕ)) : Type 0 where
  pub reorder : R ≤ max_reordering
  pub window : m < 2 ^ suc (2 * R)
  pub upto : StatesUpto R row count l

-- the same, from digit d of the marks on
pub record DigitComing (R : ℕ) (row : List ℕ) (count m d : ℕ) : Type 0 where
  pub coming : Coming R row count m (digits_from R m d ++ marks_from R (m + 1))
  pub digit : d ≤ 2 * R

-- a digit of a window
pub record DigitAsked (R d : ℕ) : Type 0 where
  pub reorder : R ≤ max_reordering
  pub digit : d ≤ 4

-- room for state q, and a digit of its marks that is set
pub record StateRoom (row : List ℕ) (q d m : ℕ) : Type 0 where
  pub long : states_end ≤ length row
  pub state : q < 12
  pub digit : d ≤ 4
  pub window : m < 32
  pub set : 2 ^ d ≤ m

-- ---- none is written yet

pub upto-none : (R : ℕ) (row : List ℕ) → StatesRoom R row → StatesUpto R row 0 (marks_from R 0)
upto-none R row w = record {
  long = w.long;
  below = omega arith;
  left = marks-all R;
  digit = λ q h. absurd (omega arith);
  mark = λ q h. absurd (omega arith);
  earlier = λ q h. absurd (omega arith);
  low = w.low;
}

-- ---- one state more

module _ (p : List ℕ) (n d m : ℕ) (h : state_at n + 2 < length p) where
  with_other : (i : ℕ) → i < state_at n → get_or (with_state p n d m) i 0 ≡ get_or p i 0
  with_other i l =
      get_or-set_other (set (set p (state_at n) d) (state_at n + 1) m) (state_at n + 2) i (marks_before d m) 0 (omega arith)
      ∙ get_or-set_other (set p (state_at n) d) (state_at n + 1) i m 0 (omega arith)
      ∙ get_or-set_other p (state_at n) i d 0 (omega arith)

  with_digit : get_or (with_state p n d m) (state_at n) 0 ≡ d
  with_digit =
      get_or-set_other (set (set p (state_at n) d) (state_at n + 1) m) (state_at n + 2) (state_at n)
      (marks_before d m) 0 (omega arith)
      ∙ get_or-set_other (set p (state_at n) d) (state_at n + 1) (state_at n) m 0 (omega arith)
      ∙ get_or-set_same p (state_at n) d 0 (omega arith)

  with_mark : get_or (with_state p n d m) (state_at n + 1) 0 ≡ m
  with_mark =
      get_or-set_other (set (set p (state_at n) d) (state_at n + 1) m)
      (state_at n + 2) (state_at n + 1) (marks_before d m) 0 (omega arith)
      ∙ get_or-set_same (set p (state_at n) d) (state_at n + 1) m 0 (simp length-set (omega arith))

  with_before : get_or (with_state p n d m) (state_at n + 2) 0 ≡ marks_before d m
  with_before =
      get_or-set_same (set (set p (state_at n) d) (state_at n + 1) m) (state_at n + 2) (marks_before d m) 0
      (simp length-set (omega arith))

pub room : {R : ℕ} {p : List ℕ} {n d m : ℕ} {l : List (ℕ × ℕ)} → R ≤ max_reordering → StatesUpto R p n ((d, m) ∷ l)
    → n < 12
room {R} {n = n} r u = let k = next {d = (0, 0)} (pairs_of R) n u.left in omega (arith, k.inside, (counted R r).few)

-- the word for the marks before is small too
before-low : (d m : ℕ) → m < 32 → marks_before d m ≤ B
before-low d m h = omega arith

with_low : (p : List ℕ) (n d m : ℕ) → state_at n + 2 < length p → d ≤ 4 → m < 32 → Low p → Low (with_state p n d m)
with_low p n d m h x y w =
    low-set (state_at n + 2) (marks_before d m)
    (low-set (state_at n + 1) m (low-set (state_at n) d w (omega arith) (omega arith))
    (simp length-set (omega arith)) (omega arith))
    (simp length-set (omega arith)) (omega (arith, before-low d m y))

pub with_frame : (o p : List ℕ) (n d m : ℕ) → n < 12 → Frame states_from states_end o p
    → Frame states_from states_end o (with_state p n d m)
with_frame o p n d m h f =
    frame-set states_end (state_at n + 2) (marks_before d m)
    (frame-set states_end (state_at n + 1) m (frame-set states_end (state_at n) d f (omega arith) (omega arith)
    (omega arith)) (omega arith) (omega arith) (omega arith))
    (omega arith) (omega arith) (omega arith)

pub upto-more : {R : ℕ} {p : List ℕ} {n d m : ℕ} {l : List (ℕ × ℕ)}
    → R ≤ max_reordering → d ≤ 4 → m < 32 → StatesUpto R p n ((d, m) ∷ l) → StatesUpto R (with_state p n d m) (n + 1) l
upto-more {R} {p} {n} {d} {m} {l} r low₁ low₂ u =
    let k = next {d = (0, 0)} (pairs_of R) n u.left in
    let x : n < 12 = room r u in
    let h : state_at n + 2 < length p = omega (arith, u.long) in
    let i : n < length (pairs_of R) = k.inside in
    let y : offset R n ≡ d = ap (λ z. z.0) k.here in
    let z : marks R n ≡ m = ap (λ z. z.1) k.here in
    record {
      long = simp length-set u.long;
      below = omega arith;
      left = k.after;
      digit = below_more (λ q. get_or (with_state p n d m) (state_at q) 0 ≡ offset R q) n
          (λ q g. with_other p n d m h (state_at q) (omega arith) ∙ u.digit q g) (with_digit p n d m h ∙ sym y);
      mark = below_more (λ q. get_or (with_state p n d m) (state_at q + 1) 0 ≡ marks R q) n
          (λ q g. with_other p n d m h (state_at q + 1) (omega arith) ∙ u.mark q g) (with_mark p n d m h ∙ sym z);
      earlier = below_more (λ q. get_or (with_state p n d m) (state_at q + 2) 0 ≡ before R q) n
          (λ q g. with_other p n d m h (state_at q + 2) (omega arith) ∙ u.earlier q g)
          (with_before p n d m h ∙ sym (ap₂ marks_before y z));
      low = with_low p n d m h low₁ low₂ u.low;
    }

-- ---- all states

-- what is written in the end: all states, so many
pub record Coded (R : ℕ) (old row : List ℕ) (count : ℕ) : Type 0 where
  pub coded : StateWords R row
  pub all : count ≡ state_count R
  pub some : 1 ≤ count
  pub frame : Frame states_from states_end old row
  pub low : Low row

pub upto_all : {R : ℕ} {o p : List ℕ} {n : ℕ} → R ≤ max_reordering → StatesUpto R p n [] → Frame states_from states_end o p
    → Coded R o p n
upto_all {R} {o} {p} {n} r u f₀ =
    let e : n ≡ state_count R = done (pairs_of R) n u.below u.left in
    record {
      coded = record {
        reorder = r;
        few = (counted R r).few;
        small = λ q h. let f = (state-at R q h).far in omega arith;
        long = omega (arith, u.long);
        digit = λ q h. u.digit q (omega arith);
        mark = λ q h. u.mark q (omega arith);
        earlier = λ q h. u.earlier q (omega arith);
      };
      all = e;
      some = omega (arith, (counted R r).some);
      frame = f₀;
      low = u.low;
    }

-- ---- what a test says

may_set : (R m d : ℕ) → may_be_last R m d ≡ true → bit m d ≡ 1
may_set R m d e = go (eqb (bit m d) 1) (eq? (bit m d) 1) e
  where
    go : (t : Bool) → Eq? (bit m d) 1 t → (t && (eqb (bit m (2 * R)) 0 || eqb d (2 * R))) ≡ true → bit m d ≡ 1
    go true (same z) e = z
    go false z e = absurd (false≢true e)

set-low : (d m : ℕ) → bit m d ≡ 1 → 2 ^ d ≤ m
unfolding bit
set-low zero m h = omega arith
set-low (suc d) m h = let r = set-low d (m / 2) h in omega arith

-- a digit that is set stands for no more than the number
pub may_low : (R m d : ℕ) → may_be_last R m d ≡ true → 2 ^ d ≤ m
may_low R m d e = set-low d m (may_set R m d e)

module _ {R : ℕ} {p : List ℕ} {n : ℕ} where
  pub skip-digit : (m d : ℕ) (l : List (ℕ × ℕ)) → d ≤ 2 * R → may_be_last R m d ≡ false
      → StatesUpto R p n (digits_from R m d ++ l) → StatesUpto R p n (digits_from R m (d + 1) ++ l)
  skip-digit m d l h e u = rw (digits_more R m d h, e) at u

  pub next-digit : (m d : ℕ) (l : List (ℕ × ℕ)) → d ≤ 2 * R → may_be_last R m d ≡ true
      → StatesUpto R p n (digits_from R m d ++ l) → StatesUpto R p n ((d, m) ∷ (digits_from R m (d + 1) ++ l))
  next-digit m d l h e u = rw (digits_more R m d h, e) at u

  pub no_digit : (m d : ℕ) (l : List (ℕ × ℕ)) → 2 * R < d → StatesUpto R p n (digits_from R m d ++ l)
      → StatesUpto R p n l
  no_digit m d l h u = rw (digits-none R m d h) at u

  pub skip-marks : (m : ℕ) → m < 2 ^ suc (2 * R) → is_marks R m ≡ false → StatesUpto R p n (marks_from R m)
      → StatesUpto R p n (marks_from R (m + 1))
  skip-marks m h e u = rw (marks-more R m h, e) at u

  pub next_marks : (m : ℕ) → m < 2 ^ suc (2 * R) → is_marks R m ≡ true → StatesUpto R p n (marks_from R m)
      → StatesUpto R p n (digits_from R m 0 ++ marks_from R (m + 1))
  next_marks m h e u = rw (marks-more R m h, e) at u

  pub no-marks : (m : ℕ) → 2 ^ suc (2 * R) ≤ m → StatesUpto R p n (marks_from R m) → StatesUpto R p n []
  no-marks m h u = rw (marks-none R m h) at u

-- where the marks end: 2 << 2 R, at most 32
pub marks-end : (R : ℕ) → R ≤ max_reordering → (2 * 2 ^ (2 * R) % 4294967296 ≡ 2 ^ suc (2 * R)) × (2 ^ suc (2 * R) ≤ 32)
marks-end zero h = (refl, lit≤ tt)
marks-end (suc zero) h = (refl, lit≤ tt)
marks-end (suc (suc zero)) h = (refl, lit≤ tt)
marks-end (suc (suc (suc R))) h = absurd (omega arith)

pub window-small : {R count m : ℕ} {row : List ℕ} {l : List (ℕ × ℕ)} → Coming R row count m l → m < 32
window-small {R} w = omega (arith, w.window, marks-end R w.reorder)
