-- Laws of the ways as words: how they grow from the greatest number on, and what is found in them.
use Rattle.std.specs.Prelude.{ℕ, suc, ◌+◌, ◌-◌, ◌*◌, ◌≤◌, ◌<◌, min, ◌≡◌, refl, Bool, true, false, cond, List, length, get_or, set, replicate, ltb, eqb}
use Rattle.std.proofs.Common.{sym, ap, ap₂, subst, ◌∙◌, arith, lt-ltb, le-ltb, eq-eqb, ne_eqb, below_more, length-set, get_or-set_same, get_or-set_other}
use Rattle.std.proofs.Math.Decide.{ℕ_discrete, dec_lt}
use Rattle.std.proofs.lemmas.List.{length-replicate, get_or-replicate}
use Rattle.lists.specs.Numbers.{from, in_from}
use Rattle.theory_pair.specs.Coded.{lowest, lowest-low}
use Rattle.theory_tables.specs.Steps.{B}
use Rattle.theory_tables.specs.Lowest.{lowest-above}
use Rattle.theory_cover.specs.Runs.{low_from, low_clear}
use Rattle.theory_cover.proofs.Runs.{run-all, run-next, run_at, run_past}
use Rattle.search_lanes.specs.Store.{Frame, Low}
use Rattle.search_lanes.specs.Laws.{low-set, same_low, frame-refl, frame-set}
use Rattle.staples_ways.specs.declared.LastCell.{LastCell}
use Rattle.staples_ways.specs.declared.NextCell.{NextCell}
use Rattle.staples_ways.specs.declared.Rests.{Rests}
use Rattle.staples_ways.specs.Words.{site_of_number}
use Rattle.staples_ways.specs.Laws.{way-left}
use Rattle.staples_ways.specs.Ways.{later_by, rests_by, rest_in, ways_in, ahead_in}
use Rattle.staples_ways.specs.Ways.{low_from_at, ways_words, all_ways, WaysFrom, WayPut, WaysPut, AllPut, found_among}

-- ---- the least from a number on

pub low-from-end : (G : ℕ → ℕ) (n k : ℕ) → n ≤ k → low_from G n k ≡ B
unfolding lowest from
low-from-end G n k h = let z : n - k ≡ 0 = omega arith in rw z refl

pub low-from-step : (G : ℕ → ℕ) (n k : ℕ) → k < n → low_from G n k ≡ min (G k) (low_from G n (suc k))
unfolding lowest from
low-from-step G n k h = let z : n - k ≡ suc (n - suc k) = omega arith in rw z refl

-- ---- one number more

pub ways-more :
    {G : ℕ → ℕ} {n to v x : ℕ} {old new : List ℕ}
    → v < n → n ≤ 15 → WaysFrom G n (suc v) to old → WayPut to v x old new → x ≡ G v → WaysFrom G n v to new
ways-more {G} {n} {to} {v} {x} {old} {new} h f s w e =
    record { word = λ u a b. word u a b (ℕ_discrete u v); least = λ u a b. least u a b (ℕ_discrete u v) }
  where
    word : (u : ℕ) → v ≤ u → u < n → Dec (u ≡ v) → get_or new (to + u) 0 ≡ G u
    word u a b (yes z) = rw z (w.word ∙ e)
    word u a b (no z) =
        w.other (to + u) (λ y. z (omega arith)) (λ y. omega arith) ∙ s.word u (omega arith) b

    least : (u : ℕ) → v ≤ u → u ≤ n + 1 → Dec (u ≡ v) → get_or new (to + low_from_at + u) 0 ≡ low_from G n u
    least u a b (yes z) =
        let y : v + 1 ≡ suc v = omega arith in
        let r = rw y at w.least in
        rw z (r ∙ ap₂ min e (s.least (suc v) (omega arith) (omega arith)) ∙ sym (low-from-step G n v h))
    least u a b (no z) =
        w.other (to + low_from_at + u) (λ y. omega arith) (λ y. z (omega arith)) ∙ s.least u (omega arith) b

-- it is written among the ways
pub put-frame : {to v x : ℕ} {first old new : List ℕ} → WayPut to v x old new → v < 15
    → Frame to (to + ways_words) first old → Frame to (to + ways_words) first new
put-frame {to} {v} w h f =
    record {
      long = w.long ∙ f.long;
      low = λ k l. w.other k (λ e. omega arith) (λ e. omega arith) ∙ f.low k l;
      high = λ k l. w.other k (λ e. omega arith) (λ e. omega arith) ∙ f.high k l;
    }

-- none yet: nothing is left from the last number on
pub ways-end :
    {ways : List ℕ} (G : ℕ → ℕ) (n to : ℕ) → Low ways → to + ways_words ≤ length ways → n ≤ 15
    → (let new = set (set ways (to + low_from_at + n) B) (to + low_from_at + (n + 1)) B in
    WaysFrom G n n to new × Frame to (to + ways_words) ways new × Low new)
ways-end {ways} G n to w h f = (
  record {
    word = λ v a b. absurd (omega arith);
    least = λ v a b. least v a b (ℕ_discrete v n) ∙ sym (low-from-end G n v a);
  },
  frame-set (to + ways_words) (to + low_from_at + (n + 1)) B
      (frame-set (to + ways_words) (to + low_from_at + n) B (frame-refl to (to + ways_words) ways)
      (omega arith) (omega arith) (omega arith))
      (omega arith) (omega arith) (omega arith),
  low-set (to + low_from_at + (n + 1)) B (low-set (to + low_from_at + n) B w (omega arith) (omega arith))
      (omega (arith, length-set ways (to + low_from_at + n) B)) (omega arith),
)
  where
    least : (v : ℕ) → n ≤ v → v ≤ n + 1 → Dec (v ≡ n)
        → get_or (set (set ways (to + low_from_at + n) B) (to + low_from_at + (n + 1)) B) (to + low_from_at + v) 0 ≡ B
    least v a b (yes z) =
        rw z (get_or-set_other (set ways (to + low_from_at + n) B) (to + low_from_at + (n + 1)) (to + low_from_at + n) B 0
        (omega arith) ∙ get_or-set_same ways (to + low_from_at + n) B 0 (omega arith))
    least v a b (no z) =
        let y : v ≡ n + 1 = omega arith in
        rw y (get_or-set_same (set ways (to + low_from_at + n) B) (to + low_from_at + (n + 1)) B 0
        (omega (arith, length-set ways (to + low_from_at + n) B)))

-- ---- after each end of the other row's last cell

pub all_more :
    {G : ℕ → ℕ → ℕ} {n u : ℕ} {old new : List ℕ}
    → n ≤ 15 → AllPut G n u old → WaysPut (G u) n (u * ways_words) old new → AllPut G n (u + 1) new
all_more {G} {n} {u} {old} {new} f s w =
    record {
      long = w.frame.long ∙ s.long;
      low = w.low;
      put = below_more (λ (k : ℕ). WaysFrom (G k) n 0 (k * ways_words) new) u before w.put;
    }
  where
    before : (k : ℕ) → k < u → WaysFrom (G k) n 0 (k * ways_words) new
    before k h =
        let p = s.put k h in
        record {
          word = λ v a b. w.frame.low (k * ways_words + v) (omega arith) ∙ p.word v a b;
          least = λ v a b. w.frame.low (k * ways_words + low_from_at + v) (omega arith) ∙ p.least v a b;
        }

-- there is no way
low-from-none : (G : ℕ → ℕ) (n k : ℕ) → ((v : ℕ) → v < n → G v ≡ B) → low_from G n k ≡ B
low-from-none G n k e =
    let l = lowest-low B G (from k (n - k)) in
    let h = lowest-above B G B (from k (n - k)) (omega arith)
    (λ v m. let i = in_from k (n - k) m in omega (arith, e v (omega arith))) in
    omega arith

pub all_closed : (G : ℕ → ℕ → ℕ) (n m : ℕ) → n ≤ 15 → m ≤ 15 → ((u v : ℕ) → u < m → v < n → G u v ≡ B)
    → AllPut G n m (replicate all_ways B)
all_closed G n m f g e =
    record {
      long = length-replicate {A = ℕ} all_ways B;
      low = same_low all_ways B (omega arith);
      put = λ u i. record {
        word = λ v a b. get_or-replicate {A = ℕ} all_ways (u * ways_words + v) B 0 (omega arith) ∙ sym (e u v i b);
        least = λ v a b. get_or-replicate {A = ℕ} all_ways (u * ways_words + low_from_at + v) B 0 (omega arith)
            ∙ sym (low-from-none (G u) n v (λ k h. e u k i h));
      };
    }

module _ (st row : List ℕ) (next : NextCell) (last : LastCell) (r : Rests) (beside : ℕ) where
  -- no cell is next
  pub ahead_none : next.placed ≡ next.cells → (u v : ℕ) → ahead_in st row next last r beside u v ≡ B
  ahead_none e u v = rw (le-ltb next.placed next.cells (omega arith)) refl

  -- one is
  pub ahead-some : {n m : ℕ} {ways : List ℕ} → next.placed < next.cells
      → AllPut (λ u. ways_in st row next (later_by last u) (rests_by r beside u)) n m ways
      → AllPut (ahead_in st row next last r beside) n m ways
  ahead-some {n} {m} {ways} h s =
      subst (λ z. AllPut (λ u v. cond z (ways_in st row next (later_by last u) (rests_by r beside u) v) B) n m ways)
      (sym (lt-ltb next.placed next.cells h)) s

  -- it cannot reach the other row's last cell
  pub ahead-short : site_of_number row next.placed 0 + (next.numbers - 1) < last.start → (u v : ℕ)
      → v < next.numbers → ahead_in st row next last r beside u v ≡ B
  ahead-short h u v i = go (ltb next.placed next.cells)
    where
      go : (z : Bool) → cond z (ways_in st row next (later_by last u) (rests_by r beside u) v) B ≡ B
      go true =
          way-left row next.cells next.placed (later_by last u) (rest_in st (rests_by r beside u) v) v (omega arith)
      go false = refl

-- ---- what is found

module _ (ways : List ℕ) (to n a g : ℕ) where
  pub found_left : suc a < g → found_among ways to n a g ≡ get_or ways (to + low_from_at) 0
  found_left h = rw (lt-ltb (suc a) g h) refl

  pub found-next : suc a ≡ g → found_among ways to n a g ≡ get_or ways (to + low_from_at + 1) 0
  found-next e = rw (le-ltb (suc a) g (omega arith), eq-eqb (suc a) g e) refl

  pub found_none : g ≤ a → n ≤ a - g → found_among ways to n a g ≡ B
  found_none h i =
      rw (le-ltb (suc a) g (omega arith), ne_eqb (suc a) g (λ e. omega arith), le-ltb (a - g) n i) refl

  pub found_at : g ≤ a → a - g < n
      → found_among ways to n a g ≡ min (get_or ways (to + (a - g)) 0) (get_or ways (to + low_from_at + (a - g + 2)) 0)
  found_at h i =
      rw (le-ltb (suc a) g (omega arith), ne_eqb (suc a) g (λ e. omega arith), lt-ltb (a - g) n i) refl

pub found-low : {ways : List ℕ} (to n a g : ℕ) → Low ways → found_among ways to n a g ≤ B
found-low {ways} to n a g w = go (ltb (suc a) g) (eqb (suc a) g) (ltb (a - g) n)
  where
    go : (x y z : Bool)
        → cond x (get_or ways (to + low_from_at) 0) (cond y (get_or ways (to + low_from_at + 1) 0)
        (cond z (min (get_or ways (to + (a - g)) 0) (get_or ways (to + low_from_at + (a - g + 2)) 0)) B)) ≤ B
    go true y z = w.word (to + low_from_at)
    go false true z = w.word (to + low_from_at + 1)
    go false false true = omega (arith, w.word (to + (a - g)))
    go false false false = omega arith

pub found-clear : {G : ℕ → ℕ} {n to : ℕ} {ways : List ℕ} (a g : ℕ) → ((v : ℕ) → v < n → G v ≤ B)
    → WaysFrom G n 0 to ways → found_among ways to n a g ≡ low_clear G n a g
found-clear {G} {n} {to} {ways} a g low s = go (dec_lt (suc a) g) (ℕ_discrete (suc a) g) (dec_lt (a - g) n)
  where
    go : Dec (suc a < g) → Dec (suc a ≡ g) → Dec (a - g < n) → found_among ways to n a g ≡ low_clear G n a g
    go (yes h) x y =
        let z : to + low_from_at ≡ to + low_from_at + 0 = omega arith in
        found_left ways to n a g h
        ∙ ap (λ (k : ℕ). get_or ways k 0) z ∙ s.least 0 (omega arith) (omega arith) ∙ sym (run-all G n a g h)
    go (no h) (yes e) y =
        found-next ways to n a g e ∙ s.least 1 (omega arith) (omega arith) ∙ sym (run-next G n a g e)
    go (no h) (no d) (yes i) =
        let k = a - g in
        let c = low k i in
        let z : low_from G n (k + 2) ≡ low_from G n (suc (suc k)) = ap (low_from G n) (omega arith) in
        found_at ways to n a g (omega arith) i
        ∙ ap₂ min (s.word k (omega arith) i) (s.least (k + 2) (omega arith) (omega (arith, i)))
        ∙ omega (arith, run_at G n a g k (omega arith) i)
    go (no h) (no d) (no i) =
        found_none ways to n a g (omega arith) (omega arith) ∙ sym (run_past G n a g (omega arith))
