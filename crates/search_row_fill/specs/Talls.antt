-- The tall cells of a row, by their positions in rising order: the I-th of them
-- stands where the pair theory has tall cell I.
use Rattle.std.specs.Prelude.{ℕ, zero, suc, ◌≤◌, ◌<◌, Bool, length, get_or}
use Rattle.std.proofs.Math.Path.{◌≡◌, refl, ap₂}
use Rattle.std.proofs.Common.{sym, ap, ◌∙◌, arith}
use Rattle.std.proofs.Math.Bool.{true, false, cond}
use mathlib.Core.List.Memᴰ.{head as here}
use mathlib.Core.List.Memᴰ.{tail as there}
use mathlib.Core.List.{List, [], ◌∷◌, Memᴰ as In}
use Rattle.definition.specs.Lists as lists
use Rattle.definition.specs.Job.{Job}
use Rattle.definition.specs.Job as job
use Rattle.definition.specs.Rules.{absent_cell, cell_at}
use Rattle.definition_laws.specs.Sound.{Sound}
use Rattle.lists.specs.Numbers.{from, in_from}
use Rattle.lists.specs.Membership.{Distinct}
use Rattle.theory_row.specs.Order.{place}
use Rattle.theory_pair.specs.Pick.{pick, pick_in, pick_pairs}
use Rattle.theory_pair.specs.Members.{at, images, at_in, place_at, images-all, from-rising, rising_distinct'}
use Rattle.theory_pair.specs.Cells.{Side, row₀, row₁, Kind, one, both, in_row, is_tall}
use Rattle.theory_pair.specs.Cells.{members, tall_cells, cell, tall_count, pos}
use Rattle.theory_pair.specs.Cells as states
use Rattle.theory_bridge.specs.Paired.{pair_job}
use Rattle.theory_bridge.proofs.Row.{is_tall-same}

-- ---- picks

module _ (f g : ℕ → Bool) where
  pub pick_same : (l : List ℕ) → ((k : ℕ) → In k l → f k ≡ g k) → pick f l ≡ pick g l
  unfolding pick
  pick_same [] h = refl
  pick_same (x ∷ l) h = ap₂ (λ t r. cond t (x ∷ r) r) (h x (here refl)) (pick_same l (λ k m. h k (there m)))

  -- a pick from a wider one
  pick-pick : ((k : ℕ) → g k ≡ true → f k ≡ true) → (l : List ℕ) → pick g (pick f l) ≡ pick g l
  unfolding pick
  pick-pick h [] = refl
  pick-pick h (x ∷ l) = go (f x) (g x) refl refl (pick-pick h l)
    where
      go : (t u : Bool) → f x ≡ t → g x ≡ u → pick g (pick f l) ≡ pick g l
          → pick g (cond t (x ∷ pick f l) (pick f l)) ≡ cond u (x ∷ pick g l) (pick g l)
      go true u p q e = ap₂ (λ b r. cond b (x ∷ r) r) q e
      go false true p q e = absurd (let z : ◌≡◌ {A = ℕ} 0 1 = wrong p (h x q) in omega arith)
        where
          wrong : {b : Bool} → b ≡ false → b ≡ true → ◌≡◌ {A = ℕ} 0 1
          wrong r s = cc
      go false false p q e = e

pick-images : (f : ℕ → Bool) (c : ℕ → ℕ) (l : List ℕ) → pick f (images c l) ≡ images c (pick (λ p. f (c p)) l)
unfolding pick images
pick-images f c [] = refl
pick-images f c (p ∷ l) = go (f (c p)) (pick-images f c l)
  where
    go : (t : Bool) → pick f (images c l) ≡ images c (pick (λ p. f (c p)) l)
        → cond t (c p ∷ pick f (images c l)) (pick f (images c l))
        ≡ images c (cond t (p ∷ pick (λ p. f (c p)) l) (pick (λ p. f (c p)) l))
    go true e = ap (λ r. c p ∷ r) e
    go false e = e

images-size : (c : ℕ → ℕ) (l : List ℕ) → length (images c l) ≡ length l
unfolding images
images-size c [] = refl
images-size c (p ∷ l) = ap suc (images-size c l)

images-at : (c : ℕ → ℕ) (l : List ℕ) (i : ℕ) → i < length l → at (images c l) i ≡ c (at l i)
unfolding images
images-at c [] i h = absurd (omega arith)
images-at c (p ∷ l) zero h = refl
images-at c (p ∷ l) (suc i) h = images-at c l i (omega arith)

-- ---- the tall cells of a row in general

tall_in_row : (s : Side) (k : Kind) → is_tall k ≡ true → in_row s k ≡ true
tall_in_row row₀ both e = refl
tall_in_row row₁ both e = refl
tall_in_row row₀ (one t) e = absurd (let y : ◌≡◌ {A = ℕ} 0 1 = cc in omega arith)
tall_in_row row₁ (one t) e = absurd (let y : ◌≡◌ {A = ℕ} 0 1 = cc in omega arith)

module _ {A : Type 0} (J : states.PairJob A) (s : Side) where
  -- the positions of the tall cells
  abbrev pub tall_places : List ℕ
  tall_places = pick (λ p. is_tall (J.kind (cell J s p))) (from 0 (length (members J s)))

  distinct : Distinct (members J s)
  unfolding members
  distinct = rising_distinct' (members J s)
      (pick_pairs (λ k. in_row s (J.kind k)) (λ x y. x < y) (from 0 J.count) (from-rising 0 J.count))

  tall-members : pick (λ k. is_tall (J.kind k)) (members J s) ≡ tall_cells J
  unfolding members tall_cells
  tall-members =
      pick-pick (λ k. in_row s (J.kind k)) (λ k. is_tall (J.kind k)) (λ k. tall_in_row s (J.kind k)) (from 0 J.count)

  tall-images : images (at (members J s)) tall_places ≡ tall_cells J
  tall-images =
      sym (pick-images (λ k. is_tall (J.kind k)) (at (members J s)) (from 0 (length (members J s))))
      ∙ ap (pick (λ k. is_tall (J.kind k))) (images-all (members J s))
      ∙ tall-members

  pub places_count : length tall_places ≡ tall_count J
  places_count = sym (images-size (at (members J s)) tall_places) ∙ ap length tall-images

  pub places-pos : (I : ℕ) → I < length tall_places → at tall_places I ≡ pos J s I
  places-pos I h =
      let p = at tall_places I in
      let m = in_from 0 (length (members J s))
      (pick_in (λ p. is_tall (J.kind (cell J s p))) (from 0 (length (members J s))) (at_in tall_places I h)).0 in
      let e : at (members J s) p ≡ at (tall_cells J) I = sym (images-at (at (members J s)) tall_places I h)
      ∙ ap (λ l. at l I) tall-images in
      sym (place_at (members J s) p distinct (omega arith)) ∙ ap (λ k. place k (members J s)) e

-- ---- at most 24

pick-shift : (g : ℕ → Bool) (a n : ℕ) → length (pick g (from (suc a) n)) ≡ length (pick (λ k. g (suc k)) (from a n))
unfolding pick from
pick-shift g a zero = refl
pick-shift g a (suc n) = go (g (suc a)) (pick-shift g (suc a) n)
  where
    go : (t : Bool) → length (pick g (from (suc (suc a)) n)) ≡ length (pick (λ k. g (suc k)) (from (suc a) n))
        → length (cond t (suc a ∷ pick g (from (suc (suc a)) n)) (pick g (from (suc (suc a)) n)))
        ≡ length (cond t (a ∷ pick (λ k. g (suc k)) (from (suc a) n)) (pick (λ k. g (suc k)) (from (suc a) n)))
    go true e = ap suc e
    go false e = e

keep-size : {A : Type 0} (f : A → Bool) (d : A) (l : List A)
    → length (lists.keep f l) ≡ length (pick (λ k. f (get_or l k d)) (from 0 (length l)))
unfolding pick from
keep-size f d [] = refl
keep-size f d (x ∷ l) = go (f x) (keep-size f d l ∙ sym (pick-shift (λ k. f (get_or (x ∷ l) k d)) 0 (length l)))
  where
    go : (t : Bool) → length (lists.keep f l) ≡ length (pick (λ k. f (get_or (x ∷ l) k d)) (from 1 (length l)))
        → length (cond t (x ∷ lists.keep f l) (lists.keep f l)) ≡ length (cond t (0
        ∷ pick (λ k. f (get_or (x ∷ l) k d)) (from 1 (length l))) (pick (λ k. f (get_or (x ∷ l) k d)) (from 1 (length l))))
    go true e = ap suc e
    go false e = e

pub few-talls : (j : Job) → Sound j → tall_count (pair_job j) ≤ 24
unfolding tall_cells
few-talls j sound =
    let a = keep-size job.is_tall absent_cell j.cells in
    let b =
    ap length (pick_same (λ k. job.is_tall (cell_at j k)) (λ k. is_tall ((pair_job j).kind k)) (from 0 (length j.cells))
    (λ k m. let h = in_from 0 (length j.cells) m in is_tall-same j sound k (omega arith))) in
    let c = sound.few_tall in
    omega arith
