-- A sentence in the parts that are written, one after another, and the room that its writers ask.
use Rattle.std.specs.Prelude.{ℕ, zero, suc, ◌+◌, ◌≤◌, ◌<◌, ◌≡◌, refl, Bool, cond, get_or, eqb}
use Rattle.std.proofs.Common.{◌∙◌, arith, add-one, ne_eqb}
use mathlib.Core.List.{List, [], ◌++◌, map, map-append}
use Rattle.std.proofs.Math.ListN.{length, take, drop, length-map, take-append-drop, get_or-eq_default}
use Rattle.std.proofs.Math.Seq.{take-suc, length-take-le}
use Rattle.definition.specs.Texts.{Text, bytes}
use Rattle.definition.specs.Reasons.{phrases, phrase_of, cell_named, cells_named, sentence}
use Rattle.text_write.specs.Put.{Room, Wrote}
use Rattle.text_write.specs.Puts.{wrote_none, then, rest}
use Rattle.text_laws.specs.Parted.{parted-last, parted-within}

-- ---- what the writers ask

-- a cell after what parts it from the one before it
abbrev pub next_named : Bool → ℕ → Text
next_named first n = cond first [] (bytes ", ") ++ cell_named n

-- so many cells are lent, and the sentence fits from the output's first byte on
pub record SentenceRoom (rule : ℕ) (cells : List ℕ) (count : ℕ) (output : List ℕ) : Type 0 where
  pub lent : count ≤ length cells
  pub room : Room (sentence (record { rule = rule; cells = take count cells })) output 0

-- ---- the phrases

-- rule 0 has none, nor has one past the last
pub phrase_none : (rule : ℕ) → (1 ≤ rule → length phrases < rule) → phrase_of rule ≡ []
phrase_none zero past = refl
phrase_none (suc n) past =
    let short : length phrases ≤ n = omega (arith, past (omega arith)) in
    get_or-eq_default phrases [] short

-- ---- the cells, one after another

pub cells-none : (l : List ℕ) (at : ℕ) → Wrote (cells_named []) l at l at
unfolding cells_named
cells-none l at = wrote_none l at

-- their names grow at the end by one more, and fewer of them are no longer
module _ (cells : List ℕ) (i : ℕ) where
  cells-more : i < length cells
      → cells_named (take (i + 1) cells) ≡ cells_named (take i cells) ++ next_named (eqb i 0) (get_or cells i 0)
  unfolding cells_named
  cells-more h =
      let names = map cell_named (take i cells) in
      let many : length names ≡ i = length-map (take i cells) cell_named ∙ length-take-le i cells (omega arith) in
      let last = parted-last (bytes ", ") names (cell_named (get_or cells i 0)) in
      rw (add-one i, take-suc cells i 0, map-append) (rw many at last)

  cells-within : length (cells_named (take i cells)) ≤ length (cells_named cells)
  unfolding cells_named
  cells-within =
      let within = parted-within (bytes ", ") (map cell_named (take i cells)) (map cell_named (drop i cells)) in
      rw (← map-append, take-append-drop i cells) at within

-- ---- one cell more, in the output

module _ (cells : List ℕ) {l m : List ℕ} {at p : ℕ} (room : Room (cells_named cells) l at) (i : ℕ) (few : i < length cells)
    (done : Wrote (cells_named (take i cells)) l at m p) where
  pub next-room : Room (next_named (eqb i 0) (get_or cells i 0)) m p
  next-room =
      let fits : Room (cells_named (take (i + 1) cells)) l at = record {
        fits = omega (arith, room.fits, cells-within cells (i + 1));
      } in
      rest (rw (cells-more cells i few) at fits) done

  pub next_wrote : {n : List ℕ} {r : ℕ} → Wrote (next_named (eqb i 0) (get_or cells i 0)) m p n r
      → Wrote (cells_named (take (i + 1) cells)) l at n r
  next_wrote w = rw (cells-more cells i few) (then done w)

-- ---- the sentence

-- of a broken rule, in the four parts that are written
abbrev pub broken : ℕ → List ℕ → Text
broken rule cells = phrase_of rule ++ (bytes ": " ++ (cells_named cells ++ bytes "."))

module _ (rule : ℕ) (cells : List ℕ) where
  pub sentence-legal : rule ≡ 0 → sentence (record { rule = rule; cells = cells }) ≡ bytes "legal."
  unfolding sentence
  sentence-legal e = rw e

  pub sentence-broken : (rule ≡ 0 → ⊥) → sentence (record { rule = rule; cells = cells }) ≡ broken rule cells
  unfolding sentence
  sentence-broken ne = rw (ne_eqb rule 0 ne)
