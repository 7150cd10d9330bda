-- The first four numbers of a line, and what the lines so far leave to the next.
use Rattle.std.specs.Prelude.{ℕ, zero, suc, ◌+◌, ◌*◌, ◌≤◌, max, ◌≡◌, refl, Bool, true, false, cond, List, [], ◌∷◌, ◌++◌, length, eqb, ◌<◌, get_or, take, drop}
use Rattle.std.proofs.Common.{ap, sym, ◌∙◌, arith, take-append-drop}
use Rattle.std.proofs.lemmas.List.{drop_more, take_more}
use Rattle.definition.specs.Job.{cell_lead, max_given}
use Rattle.definition.specs.Draws.{◌to◌, drawn, draws}
use Rattle.definition.specs.Load.{Load, largest, row_drawn, layouts_drawn, listed}
use Rattle.definition.specs.Texts.{within}
use Rattle.text_laws.specs.Numbers.{also}
use Rattle.text_write.specs.Put.{Room, Wrote}
use Rattle.text_write.specs.Puts.{then, first, rest}
use Rattle.load_laws.specs.Lines.{field_bytes, is-printable, listed-long}
use Rattle.load_laws.specs.Accepted.{job_from}
use Rattle.job_tally.specs.declared.Tally.{Tally}
use Rattle.job_tally.specs.Tallies.{Tallies, TallyRoom}
use Rattle.load_draws.specs.Generators.{generator_of}
use Rattle.load_write.specs.declared.Progress.{Progress}
use Rattle.load_write.specs.declared.Opening.{Opening}
use Rattle.load_write.specs.Fields.{listed_append}

-- a progress stands for a load as far as it is written
pub record ProgressOf (l : Load) (p : Progress) : Type 0 where
  pub generator : generator_of p.cursor.generator ≡ l.generator
  pub tally : Tallies (job_from l) p.tally

-- one more cell keeps all numbers within theirs
pub record CellRoom (p : Progress) : Type 0 where
  pub room : TallyRoom p.tally
  pub first : p.tally.first ≤ max_given
  pub second : p.tally.second ≤ max_given

abbrev pub largest_of : Tally → ℕ → ℕ
largest_of t row = cond (eqb row 2) (max t.first t.second) (cond (eqb row 0) t.first t.second)

-- the numbers of an opening, and its text
abbrev pub opening_numbers : Opening → List ℕ
opening_numbers h = h.row ∷ h.given ∷ h.mirrorable ∷ h.layouts ∷ []

abbrev pub opening_text : Opening → List ℕ
opening_text h = cell_lead ∷ listed (opening_numbers h)

-- an opening drawn after a load's cells
pub record OpeningOf (l : Load) (h : Opening) : Type 0 where
  pub row : h.row ≡ row_drawn l.cells l.generator
  pub given : h.given
      ≡ largest (row_drawn l.cells l.generator) l.cells + drawn (0 to 12) (draws 2 l.generator)
  pub mirrorable : h.mirrorable ≡ drawn (0 to 1) (draws 3 l.generator)
  pub layouts : h.layouts ≡ layouts_drawn l.generator
  pub generator : generator_of h.generator ≡ draws 4 l.generator

-- it is so for every load that the progress stands for; and its numbers are small
pub record DrewOpening (p : Progress) (h : Opening) : Type 0 where
  pub row : h.row ≤ 2
  pub given : h.given ≤ 9999
  pub mirrorable : h.mirrorable ≤ 1
  pub layouts : h.layouts ≤ 2
  pub of : (l : Load) → ProgressOf l p → OpeningOf l h

pub tally-low : {p : Progress} (row : ℕ) → CellRoom p → largest_of p.tally row ≤ max_given
tally-low {p} row r = go (eqb row 2) (eqb row 0)
  where
    go : (s t : Bool)
        → cond s (max p.tally.first p.tally.second) (cond t p.tally.first p.tally.second) ≤ max_given
    go true t = omega (arith, r.first, r.second)
    go false true = r.first
    go false false = r.second

-- the largest in a cell's rows is the load's
pub largest-stands : {l : Load} {p : Progress} (row : ℕ) → ProgressOf l p → row ≤ 2
    → largest_of p.tally row ≡ largest row l.cells
unfolding largest
largest-stands zero s h = s.tally.first
largest-stands (suc zero) s h = s.tally.second
largest-stands (suc (suc zero)) s h = rw (s.tally.first, s.tally.second)
largest-stands (suc (suc (suc row))) s h = absurd (omega arith)

-- ---- the text of an opening

-- the lead and the first i numbers
abbrev pub opening_part : Opening → ℕ → List ℕ
opening_part h i = cell_lead ∷ listed (take i (opening_numbers h))

-- one number more
module _ (h : Opening) (i : ℕ) (few : i < length (opening_numbers h)) {l m : List ℕ} {at p : ℕ}
    (done : Wrote (opening_part h i) l at m p) where
  abbrev number : List ℕ
  number = listed (get_or (opening_numbers h) i 0 ∷ [])

  pub number-room : Room (opening_text h) l at → Room number m p
  number-room room =
      let all : opening_text h ≡ opening_part h i ++ listed (drop i (opening_numbers h)) =
      ap (λ (l : List ℕ). cell_lead ∷ listed l) (sym (take-append-drop i (opening_numbers h)))
      ∙ ap (λ (l : List ℕ). cell_lead ∷ l) (listed_append (take i (opening_numbers h)) (drop i (opening_numbers h))) in
      let next : listed (drop i (opening_numbers h)) ≡ number ++ listed (drop (i + 1) (opening_numbers h)) =
      ap listed (drop_more (opening_numbers h) i 0 few)
      ∙ listed_append (get_or (opening_numbers h) i 0 ∷ []) (drop (i + 1) (opening_numbers h)) in
      first (listed (drop (i + 1) (opening_numbers h))) (rw next at (rest (rw all at room) done))

  pub number_wrote : {n : List ℕ} {r : ℕ} → Wrote number m p n r → Wrote (opening_part h (i + 1)) l at n r
  number_wrote w =
      rw (take_more (opening_numbers h) i 0 few, listed_append (take i (opening_numbers h)) (get_or (opening_numbers h) i 0 ∷ []))
      (then done w)

-- it takes at most its lead and four numbers
pub opening-long : {p : Progress} {h : Opening} → DrewOpening p h → length (opening_text h) ≤ 1 + 4 * field_bytes
opening-long {h = h} d =
    omega (
      arith,
      listed-long (opening_numbers h)
          (also (within 0 9999 h.row) _ (is-printable h.row (omega (arith, d.row)))
          (also (within 0 9999 h.given) _ (is-printable h.given d.given)
          (also (within 0 9999 h.mirrorable) _ (is-printable h.mirrorable (omega (arith, d.mirrorable)))
          (also (within 0 9999 h.layouts) true (is-printable h.layouts (omega (arith, d.layouts))) refl)))),
    )
