-- The staples of a placement, and the sites that its rows cover: together all sites.
use Prim.Native.Nat.{ℕ, zero, suc, ◌+◌, ◌≤◌, ◌<◌}
use Rattle.std.specs.Prelude.{◌≡◌, Bool, true, false, not, ◌&&◌, length, leb, ltb, eqb}
use Rattle.std.proofs.Math.Path.{refl, sym, ap, ap₂}
use Rattle.std.proofs.Common.{◌∙◌, arith, le-leb}
use Rattle.std.proofs.Math.Bool.{◌||◌, cond}
use Rattle.std.proofs.lemmas.Bool.{false≢true}
use mathlib.Core.List.Memᴰ.{head as here}
use mathlib.Core.List.Memᴰ.{tail as there}
use mathlib.Core.List.{List, [], ◌∷◌, Memᴰ as In}
use Rattle.definition.specs.Lists as lists
use Rattle.definition.specs.Job.{Job}
use Rattle.definition.specs.Job as job
use Rattle.definition.specs.Placement.{Pose, Placement}
use Rattle.definition.specs.Rules.{cell_at, pose_at, cells_of}
use Rattle.definition.specs.Staples.{stands_on, staples}
use Rattle.definition_laws.specs.Sound.{Sound}
use Rattle.lists.specs.Numbers.{from}
use Rattle.theory_row.specs.Rules.{sum}
use Rattle.theory_pair.specs.Members.{at, at_in, images, images-all}
use Rattle.theory_pair.proofs.Lines.{members_in}
use Rattle.theory_pair.specs.Cells.{Side, row₀, row₁, members, cell}
use Rattle.theory_bridge.specs.Paired.{layout_of, width_of, pair_job}
use Rattle.theory_bridge.proofs.Row.{Gives, row_low, in_cells, members-same}
use Rattle.theory_cover.specs.Sums.{sum_ext}
use Rattle.theory_cover.specs.FileRow.{RowFrom, covers}
use Rattle.theory_cover.specs.Covered.{covered}
use Rattle.theory_cover.proofs.Covered.{row-size}
use Rattle.theory_staples.specs.JobRow.{plain_pose, plain_width, row_poses, row_of_job}
use Rattle.theory_staples.proofs.JobRow.{plain-number, plain-width}
use Rattle.theory_staples.specs.JobRow.{NumberedBy}

-- the numbers that fail a test, and those that pass it
kept-rest : (c : ℕ → Bool) (a n : ℕ)
    → length (lists.keep (λ s. not (c s)) (lists.from a n)) + sum (λ s. cond (c s) 1 0) (from a n) ≡ n
unfolding sum from
kept-rest c a zero = refl
kept-rest c a (suc n) = go (c a) (kept-rest c (suc a) n)
  where
    l : List ℕ
    l = lists.keep (λ s. not (c s)) (lists.from (suc a) n)

    go : (t : Bool) → length l + sum (λ s. cond (c s) 1 0) (from (suc a) n) ≡ n
        → length (cond (not t) (a ∷ l) l) + (cond t 1 0 + sum (λ s. cond (c s) 1 0) (from (suc a) n)) ≡ suc n
    go true r = omega arith
    go false r = omega arith

-- an entry that passes f is among those that pass g, or those that pass h
any-split : (f g h : ℕ → Bool) (l : List ℕ) → ((x : ℕ) → In x l → (g x || h x) ≡ true)
    → lists.any f l ≡ (lists.any f (lists.keep g l) || lists.any f (lists.keep h l))
any-split f g h [] e = refl
any-split f g h (x ∷ l) e = go (g x) (h x) (e x (here refl)) (any-split f g h l (λ y m. e y (there m)))
  where
    A : Bool
    A = lists.any f (lists.keep g l)

    C : Bool
    C = lists.any f (lists.keep h l)

    shuffle : (a b c : Bool) → (a || (b || c)) ≡ (b || (a || c))
    shuffle true true c = refl
    shuffle true false c = refl
    shuffle false b c = refl

    twice : (a b c : Bool) → (a || (b || c)) ≡ ((a || b) || (a || c))
    twice true b c = refl
    twice false b c = refl

    assoc : (a b c : Bool) → (a || (b || c)) ≡ ((a || b) || c)
    assoc true b c = refl
    assoc false b c = refl

    go : (s t : Bool) → (s || t) ≡ true → lists.any f l ≡ (A || C)
        → (f x || lists.any f l)
        ≡ (lists.any f (cond s (x ∷ lists.keep g l) (lists.keep g l))
        || lists.any f (cond t (x ∷ lists.keep h l) (lists.keep h l)))
    go true true q r = ap (λ z. f x || z) r ∙ twice (f x) A C
    go true false q r = ap (λ z. f x || z) r ∙ assoc (f x) A C
    go false true q r = ap (λ z. f x || z) r ∙ shuffle (f x) A C
    go false false q r = absurd (false≢true q)

module _ (j : Job) (sound : Sound j) (P : Placement) (f : ℕ → Pose) (g : Gives P (length j.cells) f) where
  -- a row's cells at the site numbers ts
  abbrev RowBy : Side → List ℕ → Type 0
  RowBy s ts = RowFrom (row_of_job j s) 0 0 ts × NumberedBy j s (row_poses j f s) 0 ts

  in_some-row : (x : ℕ) → In x (cells_of j) → (job.in_row 0 (cell_at j x) || job.in_row 1 (cell_at j x)) ≡ true
  in_some-row x m = go (cell_at j x).row (row_low j sound x ((in_cells j sound x).0 m))
    where
      go : (r : ℕ) → r ≤ 2 → ((eqb r 2 || eqb r 0) || (eqb r 2 || eqb r 1)) ≡ true
      go zero h = refl
      go (suc zero) h = refl
      go (suc (suc zero)) h = refl
      go (suc (suc (suc r))) h = absurd (omega arith)

  module _ (x : ℕ) where
    -- some cell of a row stands on site x just if its site numbers cover it
    row-covers : (s : Side) (p a : ℕ) (ts : List ℕ) → RowFrom (row_of_job j s) p a ts
        → NumberedBy j s (row_poses j f s) p ts
        → lists.any (stands_on j P x) (images (at (members (pair_job j) s)) (from p (length ts)))
        ≡ covers (row_of_job j s) p ts x
    unfolding images from width_of
    row-covers s p a [] r h = refl
    row-covers s p a (t ∷ ts) r h =
        ap₂ ◌||◌ (one k (g k inside ∙ sym h.0))
        (row-covers s (suc p) ((row_of_job j s).site p t + (row_of_job j s).wide p) ts r.1 h.1)
      where
        k : ℕ
        k = cell (pair_job j) s p

        inside : k < length j.cells
        inside = (members_in (pair_job j) s (at_in (members (pair_job j) s) p r.0.there)).0

        on : ℕ → Pose → Bool
        on y q = leb q.site x && ltb x (q.site + y)

        one : (i : ℕ) → pose_at P i ≡ plain_pose j i t → stands_on j P x i ≡ on (plain_width j i) (plain_pose j i t)
        one i e =
            ap (λ (q : Pose). on (layout_of j i q).width q) e
            ∙ ap (λ (w : ℕ). on w (plain_pose j i t)) (plain-width j i (plain_pose j i t) (plain-number j i t))

    row_any : (s : Side) (ts : List ℕ) → RowBy s ts
        → lists.any (stands_on j P x) (members (pair_job j) s) ≡ covers (row_of_job j s) 0 ts x
    row_any s ts r =
        let ms = members (pair_job j) s in
        let e : length ms ≡ length ts = let z = row-size (row_of_job j s) 0 0 ts r.0 in omega arith in
        ap (lists.any (stands_on j P x)) (sym (images-all ms) ∙ ap (λ (n : ℕ). images (at ms) (from 0 n)) e)
        ∙ row-covers s 0 0 ts r.0 r.1

    -- a site with no staple is one that a row covers
    any-covers : (ts us : List ℕ) → RowBy row₀ ts → RowBy row₁ us
        → lists.any (stands_on j P x) (cells_of j) ≡ (covers (row_of_job j row₀) 0 ts x || covers (row_of_job j row₁) 0 us x)
    any-covers ts us r q =
        any-split (stands_on j P x) (λ k. job.in_row 0 (cell_at j k)) (λ k. job.in_row 1 (cell_at j k)) (cells_of j)
        in_some-row
        ∙ ap₂ ◌||◌ (ap (lists.any (stands_on j P x)) (members-same j sound row₀) ∙ row_any row₀ ts r)
        (ap (lists.any (stands_on j P x)) (members-same j sound row₁) ∙ row_any row₁ us q)

  pub staples-rest : (ts us : List ℕ) → RowBy row₀ ts → RowBy row₁ us
      → staples j P + covered (covers (row_of_job j row₀) 0 ts) (covers (row_of_job j row₁) 0 us) 0 j.header.sites
      ≡ j.header.sites
  unfolding staples
  staples-rest ts us r q =
      ap (λ (n : ℕ). staples j P + n)
      (sum_ext _ (λ x. cond (lists.any (stands_on j P x) (cells_of j)) 1 0) (from 0 j.header.sites)
      (λ x m. ap₂ (λ a b. cond (a && b) 1 0) (le-leb 0 x (omega arith)) (sym (any-covers x ts us r q))))
      ∙ kept-rest (λ x. lists.any (stands_on j P x) (cells_of j)) 0 j.header.sites
