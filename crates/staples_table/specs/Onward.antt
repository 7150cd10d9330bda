-- What the end of a row's last cell finds among the ways by the next one is what the recurrence comes to by it.
use Rattle.std.specs.Prelude.{ℕ, zero, suc, ◌+◌, ◌-◌, ◌*◌, ◌≤◌, ◌<◌, min, max, ◌≡◌, refl, Bool, true, false, ◌&&◌, cond, List, leb, ltb}
use Rattle.std.proofs.Common.{sym, ap, ap₂, ◌∙◌, arith, lt-ltb, le-leb}
use Rattle.std.proofs.Math.Decide.{dec_lt}
use Rattle.std.proofs.lemmas.Bool.{lt-leb}
use Rattle.lists.specs.Numbers.{from}
use Rattle.theory_pair.specs.Coded.{lowest, lowest-low}
use Rattle.theory_tables.specs.Steps.{B}
use Rattle.theory_tables.specs.Lowest.{loop_above}
use Rattle.theory_cover.specs.FileRow.{FileRow, start_of, end_of}
use Rattle.theory_cover.specs.Recurrence.{clears, new_sites, cover_by_way, onward}
use Rattle.theory_cover.proofs.Recurrence.{onward-none}
use Rattle.theory_cover.specs.Runs.{low_clear, way_at}
use Rattle.theory_cover.proofs.Runs.{onward-run}
use Rattle.search_row.specs.Words.{word_of, width_word}
use Rattle.staples_ways.specs.declared.LastCell.{LastCell}
use Rattle.staples_ways.specs.declared.NextCell.{NextCell}
use Rattle.staples_ways.specs.declared.Rests.{Rests}
use Rattle.staples_ways.specs.Words.{site_of_number, ok_in, file_row, FileWords, last_cell, LastStands}
use Rattle.staples_ways.specs.Laws.{way-low, start-added, end-added}
use Rattle.staples_ways.specs.Ways.{ways_words, rest_in, ways_in, later_by, rests_by, ahead_in, Ahead, found_among}
use Rattle.staples_ways.specs.WayLaws.{ahead_none, found-clear}

-- the least over the sites that clear an end depends on the values up to B alone
abbrev clear_of : (ℕ → ℕ) → ℕ → ℕ → List ℕ → ℕ
clear_of G a g l = lowest B (λ t. cond (clears a (g + t)) (G t) B) l

lowest-same : (G H : ℕ → ℕ) (a g k n : ℕ) → ((v : ℕ) → v < k + n → min (G v) B ≡ min (H v) B)
    → clear_of G a g (from k n) ≡ clear_of H a g (from k n)
unfolding lowest from
lowest-same G H a g k zero e = refl
lowest-same G H a g k (suc n) e =
    go (clears a (g + k)) (lowest-same G H a g (suc k) n (λ v h. e v (omega arith)))
  where
    rest : (ℕ → ℕ) → ℕ
    rest G = clear_of G a g (from (suc k) n)

    small : rest G ≤ B
    small = lowest-low B (λ t. cond (clears a (g + t)) (G t) B) (from (suc k) n)

    go : (z : Bool) → rest G ≡ rest H → min (cond z (G k) B) (rest G) ≡ min (cond z (H k) B) (rest H)
    go true r = omega (arith, e k (omega arith), r, small)
    go false r = ap (min B) r

pub clear-same : (G H : ℕ → ℕ) (n a g : ℕ) → ((v : ℕ) → v < n → min (G v) B ≡ min (H v) B)
    → low_clear G n a g ≡ low_clear H n a g
clear-same G H n a g e = lowest-same G H a g 0 n (λ v h. e v (omega arith))

-- what is covered anew is the same with D added, and so is a way with it
new-added : (b x w d : ℕ) → new_sites (b + d) (x + d) w ≡ new_sites b x w
new-added b x w d = omega arith

capped : {a b r s : ℕ} → a ≡ b → r ≡ s → min (min (a + r) B) B ≡ min (b + s) B
capped e f = omega arith

-- a row's next cell after the other row's last one
module _ {row other : List ℕ} {n m d : ℕ} (w : FileWords row n d) (x : FileWords other m d)
    (p t q u : ℕ) (own : LastStands row n d p t) (far : LastStands other m d q u)
    (st : List ℕ) (r : Rests) (beside : ℕ) (rest : ℕ → ℕ)
    (left : (v : ℕ) → v < 2 * d + 1 → ok_in row n p v ≡ true → p < n → rest_in st (rests_by r beside u) v ≡ rest v) where
  abbrev next : NextCell
  next = record { cells = n; placed = p; numbers = 2 * d + 1 }

  abbrev last : LastCell
  last = last_cell other d q 0

  abbrev L : FileRow
  L = file_row row n d

  abbrev ahead : ℕ → ℕ
  ahead = ahead_in st row next last r beside u

  abbrev way : ℕ → ℕ
  way = way_at (file_row row n d) p (end_of (file_row other m d) q u) (start_of (file_row other m d) q u) rest

  ahead-low : (v : ℕ) → v < 2 * d + 1 → ahead v ≤ B
  ahead-low v h = go (ltb p n)
    where
      go : (z : Bool) → cond z (ways_in st row next (later_by last u) (rests_by r beside u) v) B ≤ B
      go true = way-low row n p (later_by last u) (rest_in st (rests_by r beside u) v) v
      go false = omega arith

  -- each way is the recurrence's
  same_way : p < n → (v : ℕ) → v < 2 * d + 1 → min (ahead v) B ≡ min (way v) B
  same_way h v i = rw (lt-ltb p n h) (go (ok_in row n p v) refl)
    where
      z : last.start + u ≡ start_of (file_row other m d) q u + d
      z = start-added x q u far

      y : last.end + u ≡ end_of (file_row other m d) q u + d
      y = end-added x q u far

      anew : ℕ
      anew = new_sites (last.end + u) (site_of_number row p v) (word_of row p width_word)

      left' : ℕ
      left' = rest_in st (rests_by r beside u) v

      go : (b : Bool) → ok_in row n p v ≡ b
          → min (cond (b && leb (last.start + u) (site_of_number row p v)) (min (anew + left') B) B) B
          ≡ min (cond (b && leb (start_of (file_row other m d) q u) (site_of_number row p v - d))
          (cover_by_way (file_row row n d) p (end_of (file_row other m d) q u) rest v) B) B
      go false e = refl
      go true e = by (dec_lt (site_of_number row p v) (last.start + u))
        where
          k : d ≤ site_of_number row p v
          k = w.right p v h i e

          same_new : anew
              ≡ new_sites (end_of (file_row other m d) q u) (site_of_number row p v - d) (word_of row p width_word)
          same_new =
              ap₂ (λ b x. new_sites b x (word_of row p width_word)) y (omega (arith, k))
              ∙ new-added (end_of (file_row other m d) q u) (site_of_number row p v - d) (word_of row p width_word) d

          by : Dec (site_of_number row p v < last.start + u)
              → min (cond (leb (last.start + u) (site_of_number row p v)) (min (anew + left') B) B) B
              ≡ min (cond (leb (start_of (file_row other m d) q u) (site_of_number row p v - d))
              (cover_by_way (file_row row n d) p (end_of (file_row other m d) q u) rest v) B) B
          by (yes l) =
              rw (
                lt-leb (last.start + u) (site_of_number row p v) l,
                lt-leb (start_of (file_row other m d) q u) (site_of_number row p v - d) (omega (arith, z, k)),
              ) refl
          by (no l) =
              rw (
                le-leb (last.start + u) (site_of_number row p v) (omega arith),
                le-leb (start_of (file_row other m d) q u) (site_of_number row p v - d) (omega (arith, z, k)),
              ) (capped same_new (left v i e h))

  start-end : start_of (file_row row n d) p t ≤ end_of (file_row row n d) p t
  start-end = go p
    where
      go : (p : ℕ) → start_of (file_row row n d) p t ≤ end_of (file_row row n d) p t
      go zero = omega arith
      go (suc p) = omega arith

  pub found-onward :
      {c g : ℕ} {ways : List ℕ}
      → c ≡ max (start_of (file_row row n d) p t) (start_of (file_row other m d) q u) → u < 2 * d + 1 → p ≤ n
      → Ahead (ahead_in st row next last r beside) row next g ways
      → found_among ways (u * ways_words) (2 * d + 1) ((last_cell row d p 0).end + t) g
      ≡ onward (file_row row n d) p (end_of (file_row row n d) p t) (end_of (file_row other m d) q u) c rest
  found-onward {c} {g} {ways} e h i a =
      found-clear ((last_cell row d p 0).end + t) g ahead-low (a.all.put u h) ∙ go (dec_lt p n)
    where
      go : Dec (p < n) → low_clear ahead (2 * d + 1) ((last_cell row d p 0).end + t) g
          ≡ onward L p (end_of L p t) (end_of (file_row other m d) q u) c rest
      go (yes l) =
          clear-same ahead way (2 * d + 1) ((last_cell row d p 0).end + t) g (same_way l)
          ∙ ap₂ (low_clear way (2 * d + 1)) (end-added w p t own) (a.first l)
          ∙ sym (onward-run L p (end_of L p t) (end_of (file_row other m d) q u) c (start_of L p t)
          (start_of (file_row other m d) q u) (site_of_number row p 0) d rest l start-end e
          (λ v k o. omega (arith, w.right p v l k o)))
      go (no l) =
          clear-same ahead (λ v. B) (2 * d + 1) ((last_cell row d p 0).end + t) g
          (λ v k. ap (λ y. min y B) (ahead_none st row next last r beside (omega arith) u v))
          ∙ none ∙ sym (onward-none L p (end_of L p t) (end_of (file_row other m d) q u) c rest (λ v f k. l f.there))
        where
          none : low_clear (λ v. B) (2 * d + 1) ((last_cell row d p 0).end + t) g ≡ B
          none = omega (
            arith,
            lowest-low B (λ v. cond (clears ((last_cell row d p 0).end + t) (g + v)) B B) (from 0 (2 * d + 1)),
            loop_above B (λ v. cond (clears ((last_cell row d p 0).end + t) (g + v)) B B) (2 * d + 1) B (omega arith)
                (λ v k. either (clears ((last_cell row d p 0).end + t) (g + v))),
          )
            where
              either : (z : Bool) → B ≤ cond z B B
              either true = omega arith
              either false = omega arith
