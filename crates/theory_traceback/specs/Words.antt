-- The words of one row's path, if its choices were noted by them: each place holds
-- another position of the row and a pose number.
use Rattle.std.specs.Prelude.{◌≡◌, ◌≢◌, ℕ, ◌/◌, ◌%◌, ◌≤◌, ◌<◌, length}
use Rattle.std.proofs.Common.{sym, ap, ◌∙◌, arith}
use mathlib.Core.List.{List, [], ◌∷◌}
use Rattle.std.proofs.Math.Decide.{dec_lt}
use Rattle.theory_tables.specs.Steps.{pose_slots}
use Rattle.theory_row.specs.Window.{Run}
use Rattle.theory_row.specs.Arranged.{Arranged}
use Rattle.theory_row.proofs.Arranged.{run-arranged}
use Rattle.theory_row.specs.Choices.{cells, cells-size}
use Rattle.theory_pair.specs.Segment.{Line, Choice, State, Goes, next, first}
use Rattle.theory_pair.specs.Trace.{Obeys}
use Rattle.theory_tables.specs.Notes.{NotedBy}
use Rattle.theory_traceback.specs.Noted.{NotedAs, NotedUpto, NotedPath, in_cells}
use Rattle.theory_traceback.specs.Noted.{cells_in, noted_choice, noted-place, noted-apart}

-- the words w at the places 1 to n: each holds one of n positions, no two the same, and a pose number
pub record Places (n poses : ℕ) (w : ℕ → ℕ) : Type 0 where
  pub inside : (i : ℕ) → 0 < i → i ≤ n → w i / pose_slots < n
  pub below : (i : ℕ) → 0 < i → i ≤ n → w i % pose_slots < poses
  pub distinct : (i j : ℕ) → 0 < i → i < j → j ≤ n → w i / pose_slots ≢ w j / pose_slots
  pub all : (k : ℕ) → k < n → (i : ℕ) × (0 < i) × (i ≤ n) × (w i / pose_slots ≡ k)

-- a word that notes
word-is : (w : ℕ → ℕ) (i k a : ℕ) → a < pose_slots → NotedBy w i k a → (w i / pose_slots ≡ k) × (w i % pose_slots ≡ a)
word-is w i k a h e = (omega arith, omega arith)

-- the number noted for a position is the one of the word that has the position
pub number_is : (n poses : ℕ) (w : ℕ → ℕ) → Places n poses w → (k a : ℕ) → a < pose_slots → NotedUpto (NotedBy w) n k a
    → (i : ℕ) → 0 < i → i ≤ n → w i / pose_slots ≡ k → w i % pose_slots ≡ a
number_is n poses w p k a h u i l m e = go (dec_lt i j) (dec_lt j i)
  where
    j : ℕ
    j = u.place

    d : (w j / pose_slots ≡ k) × (w j % pose_slots ≡ a)
    d = word-is w j k a h u.noted

    go : Dec (i < j) → Dec (j < i) → w i % pose_slots ≡ a
    go (yes x) y = absurd (p.distinct i j l x u.high (e ∙ sym d.0))
    go (no x) (yes y) = absurd (p.distinct j i u.low y m (d.0 ∙ sym e))
    go (no x) (no y) = let z : i ≡ j = omega arith in ap (λ x. w x % pose_slots) z ∙ d.1

module _ {A : Type 0} (R : ℕ) (site_of : A → ℕ) (L : Line A) (poses : ℕ) (pose : ℕ → ℕ → A) (w : ℕ → ℕ) where
  -- the cells of a path
  path-run : (s : State A) (p : List (Choice A)) → Goes R site_of L s p → Run R L.size s.0 s.1 (cells p)
  unfolding cells
  path-run s [] h = tt
  path-run s (c ∷ p) h = (h.0.0, path-run (next R site_of L s c) p h.2)

  abbrev At : ℕ → Choice A → Type 0
  At = NotedAs (NotedBy w) poses pose

  word_at : (i : ℕ) (c : Choice A) → poses ≤ pose_slots → (a : At i c)
      → (w i / pose_slots ≡ c.0) × (w i % pose_slots ≡ a.number)
  word_at i c h a = let b = a.below in word-is w i c.0 a.number (omega arith) a.noted

  -- a path over the whole row
  pub row-places : (p : List (Choice A)) → poses ≤ pose_slots → Goes R site_of L (first R site_of L) p → length p ≡ L.size
      → NotedPath At 1 p → Places L.size poses w
  row-places p h g s n = record {
    inside = λ i l m.
        let r = noted-place At 1 i p n l (omega arith) in
        let e = (word_at i r.0 h r.2).0 in
        let b = arranged.below r.0.0 (in_cells p r.1) in
        omega arith;
    below = λ i l m.
        let r = noted-place At 1 i p n l (omega arith) in
        let e = word_at i r.0 h r.2 in
        let b = r.2.below in
        omega arith;
    distinct = λ i j l m u z.
        let r = noted-apart At 1 i j p arranged.distinct n l m (omega arith) in
        r.4 (sym (word_at i r.0 h r.2).0 ∙ z ∙ (word_at j r.1 h r.3).0);
    all = λ k l.
        let c = cells_in p (arranged.all k l) in
        let r = noted_choice At 1 p n c.1 in
        let x = r.1 in
        let y = r.2 in
        (r.0, omega arith, omega arith, (word_at r.0 c.0 h r.3).0 ∙ c.2);
  }
    where
      arranged : Arranged R L.size (cells p)
      arranged = run-arranged R L.size (cells p) (cells-size p ∙ s) (path-run (first R site_of L) p g)

  -- poses by numbers that the words have
  pub row_obeys : (p : List (Choice A)) → poses ≤ pose_slots → NotedPath At 1 p → (number : ℕ → ℕ)
      → ((i : ℕ) → 0 < i → i ≤ length p → number (w i / pose_slots) ≡ w i % pose_slots)
      → Obeys (λ k. pose k (number k)) p
  row_obeys p h n number g c m =
      let r = noted_choice At 1 p n m in
      let x = r.1 in
      let y = r.2 in
      let e = word_at r.0 c h r.3 in
      ap (pose c.0) (ap number (sym e.0) ∙ g r.0 (omega arith) (omega arith) ∙ e.1) ∙ r.3.posed
