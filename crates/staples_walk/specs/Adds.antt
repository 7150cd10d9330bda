-- A number leads on just if its cell may be added there and the fewest sites are covered then.
use Rattle.std.specs.Prelude.{ℕ, zero, suc, ◌+◌, ◌*◌, ◌≤◌, ◌<◌, min, max, ◌≡◌, refl, ◌≢◌, Bool, true, false, not, List, leb, eqb}
use Rattle.std.proofs.Common.{sym, ap₂, ◌∙◌, arith, le-leb, leb-true, eqb-true, eq-eqb, ne_eqb}
use Rattle.std.proofs.Math.Decide.{dec_lt}
use Rattle.std.proofs.lemmas.Bool.{eqb-false, not-true}
use Rattle.theory_tables.specs.Steps.{B}
use Rattle.theory_tables.proofs.Spots.{and_both}
use Rattle.theory_cover.specs.FileRow.{FileRow, start_of, end_of}
use Rattle.theory_cover.specs.Recurrence.{clears, new_sites}
use Rattle.search_row.specs.Words.{word_of, width_word}
use Rattle.staples_ways.specs.declared.Rests.{Rests}
use Rattle.staples_ways.specs.Words.{site_of_number, ok_in, file_row, FileWords, last_cell, LastStands, way_in}
use Rattle.staples_ways.specs.Laws.{way-closed, way-left, way_open}
use Rattle.staples_ways.specs.Ways.{rest_in}
use Rattle.staples_walk.specs.Steps.{leads_in, Adds}

-- where a row's last cell stands, with D added
module _ {row : List ℕ} {n d : ℕ} (w : FileWords row n d) where
  pub start-there : (p t : ℕ) → LastStands row n d p t → (last_cell row d p t).start ≡ start_of (file_row row n d) p t + d
  start-there zero t h = omega arith
  start-there (suc p) t h = omega (arith, w.right p t h.0 h.1 h.2)

  pub end-there : (p t : ℕ) → LastStands row n d p t → (last_cell row d p t).end ≡ end_of (file_row row n d) p t + d
  end-there zero t h = omega arith
  end-there (suc p) t h = omega (arith, w.right p t h.0 h.1 h.2)

  pub start_first : (p t : ℕ) → start_of (file_row row n d) p t ≤ end_of (file_row row n d) p t
  start_first zero t = omega arith
  start_first (suc p) t = omega arith

new-added : (b x w d : ℕ) → new_sites (b + d) (x + d) w ≡ new_sites b x w
new-added b x w d = omega arith

-- a row's next cell after the other row's last one
module _ {row other : List ℕ} {n m d : ℕ} (w : FileWords row n d) (y : FileWords other m d)
    (p t q u : ℕ) (own : LastStands row n d p t) (far : LastStands other m d q u)
    (st : List ℕ) (r : Rests) (rest : ℕ → ℕ) (there : p < n)
    (left : (v : ℕ) → v < 2 * d + 1 → ok_in row n p v ≡ true → rest_in st r v ≡ rest v) where
  abbrev L : FileRow
  L = file_row row n d

  abbrev M : FileRow
  M = file_row other m d

  abbrev lead : ℕ → ℕ → Bool
  lead x v =
      leads_in st row (record { cells = n; placed = p; numbers = 2 * d + 1 }) (last_cell row d p t)
      (last_cell other d q u) r x v

  abbrev AddsAt : ℕ → ℕ → Type 0
  AddsAt x v = Adds L p (end_of L p t) (end_of M q u) (max (start_of L p t) (start_of M q u)) v x rest

  -- what it covers anew, by sites with D added
  anew : (v : ℕ) → v < 2 * d + 1 → ok_in row n p v ≡ true
      → new_sites (last_cell other d q u).end (site_of_number row p v) (word_of row p width_word)
      ≡ new_sites (end_of M q u) (L.site p v) (L.wide p)
  anew v h o =
      ap₂ (λ b x. new_sites b x (word_of row p width_word)) (end-there y q u far) (omega (arith, w.right p v there h o))
      ∙ new-added (end_of M q u) (L.site p v) (word_of row p width_word) d

  pub lead_adds : (x v : ℕ) → v < 2 * d + 1 → x < B → lead x v ≡ true → AddsAt x v
  lead_adds x v h b e =
      let i = and_both (clears (last_cell row d p t).end (site_of_number row p v)) (eqb way x) e in
      let j = and_both (leb (last_cell row d p t).end (site_of_number row p v))
      (not (eqb (site_of_number row p v) (suc (last_cell row d p t).end))) i.0 in
      go (leb-true (last_cell row d p t).end (site_of_number row p v) j.0)
      (eqb-false (site_of_number row p v) (suc (last_cell row d p t).end) (not-true _ j.1)) (eqb-true way x i.1)
      (ok_in row n p v) refl (dec_lt (site_of_number row p v) (last_cell other d q u).start)
    where
      way : ℕ
      way = way_in row n p (last_cell other d q u) (rest_in st r v) v

      go : (last_cell row d p t).end ≤ site_of_number row p v → site_of_number row p v ≢ suc (last_cell row d p t).end
          → way ≡ x → (o : Bool) → ok_in row n p v ≡ o → Dec (site_of_number row p v < (last_cell other d q u).start)
          → AddsAt x v
      go c g z false o l =
          absurd (omega (arith, way-closed row n p (last_cell other d q u) (rest_in st r v) v o, z, b))
      go c g z true o (yes l) =
          absurd (omega (arith, way-left row n p (last_cell other d q u) (rest_in st r v) v l, z, b))
      go c g z true o (no l) =
          let k = w.right p v there h o in
          let a = end-there w p t own in
          let s = start-there y q u far in
          let f = start_first w p t in
          record {
            follows = record {
              there = there;
              numbered = h;
              ok = o;
              clear = omega (arith, c, k, a);
              no_gap_one = λ e. g (omega (arith, k, a));
            };
            rises = most (start_of L p t) (start_of M q u) (L.site p v) (omega (arith, c, k, a, f))
                (omega (arith, l, k, s));
            covered = same (anew v h o) (left v h o)
                (sym (way_open row n p (last_cell other d q u) (rest_in st r v) v o (omega arith)) ∙ z) b;
          }
        where
          most : (a b x : ℕ) → a ≤ x → b ≤ x → max a b ≤ x
          most a b x f g = omega arith

          same : {a b r s : ℕ} → a ≡ b → r ≡ s → min (a + r) B ≡ x → x < B → b + s ≡ x
          same e f g h = omega arith

  pub adds_lead : (x v : ℕ) → v < 2 * d + 1 → x < B → AddsAt x v → lead x v ≡ true
  adds_lead x v h b a =
      let f = a.follows in
      let o = f.ok in
      let k = w.right p v there h o in
      let e = end-there w p t own in
      let s = start-there y q u far in
      let c : (last_cell row d p t).end ≤ site_of_number row p v = omega (arith, f.clear, k, e) in
      let g : site_of_number row p v ≢ suc (last_cell row d p t).end = λ z. f.no_gap_one (omega (arith, k, e)) in
      let l : (last_cell other d q u).start ≤ site_of_number row p v = low a.rises k s in
      rw (
        le-leb (last_cell row d p t).end (site_of_number row p v) c,
        ne_eqb (site_of_number row p v) (suc (last_cell row d p t).end) g,
      ) (eq-eqb _ x (way_open row n p (last_cell other d q u) (rest_in st r v) v o l
      ∙ same (anew v h o) (left v h o) a.covered b))
    where
      low : max (start_of L p t) (start_of M q u) ≤ L.site p v → d ≤ site_of_number row p v
          → (last_cell other d q u).start ≡ start_of M q u + d → (last_cell other d q u).start ≤ site_of_number row p v
      low i j k = omega arith

      same : {a b r s : ℕ} → a ≡ b → r ≡ s → b + s ≡ x → x < B → min (a + r) B ≡ x
      same e f g h = omega arith
