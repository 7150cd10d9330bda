-- Every job that the reader accepts is sound: it begins with a sound header and no cell, and
-- each line that is not refused keeps it so.
use Rattle.std.specs.Prelude.{ℕ, suc, ◌+◌, ◌≤◌, ◌<◌, ◌≡◌, Bool, true, false, not, ◌||◌, cond, List, [], ◌∷◌, ◌++◌, length, leb, ltb}
use Rattle.std.proofs.Common.{sym, ◌∙◌, arith, length-append, leb-true, ltb-true}
use Rattle.std.proofs.Math.Bool.{and-eq-true_iff}
use Rattle.definition.specs.Lists.{keep}
use Rattle.definition.specs.Texts.{Text, lines_of}
use Rattle.definition.specs.Job.{Cell, Header, Job, accepted, is_tall, share_row, max_tall}
use Rattle.definition.specs.Job.{max_cells, numbers_of, line_header, cell_of, line_cell, header_refusal}
use Rattle.definition.specs.Job.{cell_refusal, with_cell, read_cells, read_lines, read_job}
use Rattle.definition.specs.Rules.{absent_cell, cell_at}
use Rattle.definition_laws.specs.Sound.{SoundHeader, SoundCell, Sound}
use Rattle.job_laws.specs.Tests.{chosen, read-cell-line, read-header-line}
use Rattle.job_laws.specs.Lists.{all-at, keep-more, Which, old, new, which}
use Rattle.job_laws.specs.Line.{header-line-sound, Taken, taken, cell-sound}

-- ---- one more cell

module _ (j : Job) (s : Sound j) (fixed : Bool) (n : List ℕ) (t : Taken j fixed n) where
  abbrev c : Cell
  c = cell_of fixed n

  abbrev more : Job
  more = with_cell j c

  room : (length j.cells < max_cells) × (not (is_tall c) || ltb (length (keep is_tall j.cells)) max_tall ≡ true)
  room =
      let e =
      (and-eq-true_iff (ltb (length j.cells) max_cells)
      (not (is_tall c) || ltb (length (keep is_tall j.cells)) max_tall)).0 t.room in
      (ltb-true (length j.cells) max_cells e.0, e.1)

  few-tall : length (keep is_tall (j.cells ++ c ∷ [])) ≤ max_tall
  few-tall = omega (arith, keep-more is_tall c j.cells, go (is_tall c) room.1)
    where
      go : (b : Bool) → not b || ltb (length (keep is_tall j.cells)) max_tall ≡ true
          → length (keep is_tall j.cells) + cond b 1 0 ≤ max_tall
      go true e = omega (arith, ltb-true (length (keep is_tall j.cells)) max_tall e)
      go false e = omega (arith, s.few_tall)

  each : (k : ℕ) → Which j.cells c absent_cell k → SoundCell j.header (cell_at more k)
  each k (old h e) = rw e (s.cell k h)
  each k (new h e) = rw e (cell-sound j fixed n t)

  rises : (a b : ℕ) → a < b → Which j.cells c absent_cell a → Which j.cells c absent_cell b
      → share_row (cell_at more a) (cell_at more b) ≡ true → (cell_at more a).given ≤ (cell_at more b).given
  rises a b h (old p e) (old q f) r = rw (e, f) (s.rising a b h q (rw (e, f) at r))
  rises a b h (old p e) (new q f) r =
      rw (e, f)
      (below (cell_at j a) (rw (e, f) at r)
      (all-at (λ d. not (share_row d c) || leb d.given c.given) absent_cell j.cells t.rises a p))
    where
      below : (d : Cell) → share_row d c ≡ true → not (share_row d c) || leb d.given c.given ≡ true
          → d.given ≤ c.given
      below d e u = leb-true d.given c.given (rw e at u)
  rises a b h (new p e) (old q f) r = absurd (omega arith)
  rises a b h (new p e) (new q f) r = absurd (omega arith)

  more-sound : Sound more
  more-sound = record {
    header = s.header;
    few = omega (arith, room.0, length-append j.cells (c ∷ []));
    few_tall = few-tall;
    cell = λ k h. each k (which j.cells c absent_cell k h);
    rising = λ a b h l. rises a b h (which j.cells c absent_cell a (omega arith)) (which j.cells c absent_cell b l);
  }

-- ---- the lines

pub cells-sound : (ls : List Text) (at : ℕ) (j j' : Job) → Sound j → read_cells j at ls ≡ accepted j' → Sound j'
unfolding read_cells
cells-sound [] at j j' s e = let q : j ≡ j' = cc in rw q at s
cells-sound (l ∷ ls) at j j' s e =
    let c =
    chosen (cell_refusal j l) at (read_cells (with_cell j (line_cell l)) (suc at) ls) j'
    (sym (read-cell-line j at l ls) ∙ e) in
    cells-sound ls (suc at) (with_cell j (line_cell l)) j' (more-sound j s _ (numbers_of l) (taken j l c.0))
    c.1

-- no cell yet
pub begun-sound : (h : Header) → SoundHeader h → Sound (record { header = h; cells = [] })
begun-sound h s = record {
  header = s;
  few = omega arith;
  few_tall = omega arith;
  cell = λ k l. absurd (omega arith);
  rising = λ a b p l. absurd (omega arith);
}

lines-sound : (ls : List Text) (j : Job) → read_lines ls ≡ accepted j → Sound j
unfolding read_lines
lines-sound [] j e = let z : ◌≡◌ {A = ℕ} 0 1 = cc in absurd (omega arith)
lines-sound (l ∷ ls) j e =
    let begun : Job = record { header = line_header l; cells = [] } in
    let c = chosen (header_refusal l) 1 (read_cells begun 2 ls) j (sym (read-header-line l ls) ∙ e) in
    cells-sound ls 2 begun j (begun-sound (line_header l) (header-line-sound l c.0)) c.1

pub accepted-sound : (text : Text) (j : Job) → read_job text ≡ accepted j → Sound j
unfolding read_job
accepted-sound text j e = lines-sound (lines_of text) j e
