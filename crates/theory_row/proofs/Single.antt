-- One row, whole: the cheapest path through the windows is the cheapest legal placement of the row. Each cell
-- k has a finite list of options; an option has a site and, for its cell, a width; a cell's option has its
-- own cost, and two neighbours pay a charge.
use Rattle.std.specs.Prelude.{◌≡◌, ◌≢◌, ◌⊎◌, ℕ, suc, ◌+◌, ◌≤◌, ◌<◌}
use Rattle.std.proofs.Math.Path.{refl, subst}
use Rattle.std.proofs.Common.{sym, ap, ap₂, ◌∙◌}
use Rattle.std.proofs.Math.Logic.{inl, inr}
use mathlib.Core.List.Memᴰ.{head as here}
use mathlib.Core.List.{List, [], ◌∷◌, ◌++◌, Memᴰ as In}
use mathlib.Core.List.Memᴰ
use mathlib.Core.List.Memᴰ.{tail as there}
use Rattle.std.proofs.Math.Option.{Option, none, some}
use native.Mathlib.Omega.{arith}
use Rattle.std.proofs.Math.Decide.{dec_le, ℕ_discrete}
use Rattle.lists.specs.Numbers.{from, from_in}
use Rattle.lists.specs.Neighbours.{Chain, Next}
use Rattle.theory_row.specs.Order.{order}
use Rattle.theory_row.proofs.Order.{order_below, order-size}
use Rattle.theory_row.specs.Rules.{sum, sum_next, sum_neighbours}
use Rattle.theory_row.specs.Window.{start, step, May, Run}
use Rattle.theory_row.specs.Arranged.{may?, Arranged}
use Rattle.theory_row.proofs.Arranged.{run-arranged}
use Rattle.theory_row.specs.Row.{Fits, LegalSites}
use Rattle.theory_row.proofs.Row.{legal-run, run-legal, run-order, order-sum}
use Rattle.theory_row.specs.Choices.{cells, chosen, along, along-chosen, along-size, cells-size}
use Rattle.theory_row.specs.Cheapest.{◌⊑◌, Path', cost, best, best-below, best-met}

-- ---- the entries of a list that pass a decision

module _ {C : Type 0} (P : C → Type 0) where
  keep : (c : C) → Dec (P c) → List C → List C
  keep c (yes p) l = c ∷ l
  keep c (no q) l = l

  keep_in : {x : C} (c : C) (t : Dec (P c)) (l : List C) → In x (keep c t l) → ((x ≡ c) × P c) ⊎ In x l
  unfolding keep
  keep_in c (yes p) l (here e) = inl (e, p)
  keep_in c (yes p) l (there m) = inr m
  keep_in c (no q) l m = inr m

  in_keep : (c : C) (t : Dec (P c)) (l : List C) → P c → In c (keep c t l)
  unfolding keep
  in_keep c (yes p) l h = here refl
  in_keep c (no q) l h = absurd (q h)

  keep-more : {x : C} (c : C) (t : Dec (P c)) (l : List C) → In x l → In x (keep c t l)
  unfolding keep
  keep-more c (yes p) l m = there m
  keep-more c (no q) l m = m

  module _ (dec : (c : C) → Dec (P c)) where
    sift : List C → List C
    sift [] = []
    sift (c ∷ l) = keep c (dec c) (sift l)

    sift_in : {x : C} (l : List C) → In x (sift l) → In x l × P x
    unfolding sift
    sift_in {x = x} [] m = elim m [ ]
    sift_in {x} (c ∷ l) m = go (keep_in c (dec c) (sift l) m) (sift_in l)
      where
        go : ((x ≡ c) × P c) ⊎ In x (sift l) → (In x (sift l) → In x l × P x) → In x (c ∷ l) × P x
        go (inl p) f = (here p.0, subst P (sym p.0) p.1)
        go (inr m) f = let r = f m in (there r.0, r.1)

    in_sift : {x : C} (l : List C) → In x l → P x → In x (sift l)
    unfolding sift
    in_sift {x = x} [] x3 p = elim x3 [ ]
    in_sift {x} (c ∷ l) (here e) p =
        subst (λ y. In y (keep c (dec c) (sift l))) (sym e) (in_keep c (dec c) (sift l) (subst P e p))
    in_sift (c ∷ l) (there m) p = keep-more c (dec c) (sift l) (in_sift l m p)

module _ {A : Type 0} (R n : ℕ) (options : ℕ → List A) (site_of : A → ℕ) (width_of : ℕ → A → ℕ) (own : ℕ → A → ℕ)
    (pay : ℕ × A → ℕ × A → ℕ) where
  -- a cell with an option; how many are placed, the marks, and the last one placed
  abbrev Choice : Type 0
  Choice = ℕ × A

  abbrev State : Type 0
  State = ℕ × ℕ × Option Choice

  -- every choice for the cells of l
  pairs_of : ℕ → List A → List Choice
  pairs_of k [] = []
  pairs_of k (a ∷ l) = (k, a) ∷ pairs_of k l

  candidates : List ℕ → List Choice
  candidates [] = []
  candidates (k ∷ l) = pairs_of k (options k) ++ candidates l

  -- c may stand right of the last one placed
  abbrev FitsTo : Option Choice → Choice → Type 0
  FitsTo none c = Unit {0}
  FitsTo (some b) c = (site_of b.1 + width_of b.0 b.1 ≤ site_of c.1)
      × (site_of c.1 ≢ site_of b.1 + width_of b.0 b.1 + 1)

  fitsTo? : (o : Option Choice) (c : Choice) → Dec (FitsTo o c)
  fitsTo? none c = yes tt
  fitsTo? (some b) c = go (dec_le (site_of b.1 + width_of b.0 b.1) (site_of c.1))
      (ℕ_discrete (site_of c.1) (site_of b.1 + width_of b.0 b.1 + 1))
    where
      go : Dec (site_of b.1 + width_of b.0 b.1 ≤ site_of c.1)
          → Dec (site_of c.1 ≡ site_of b.1 + width_of b.0 b.1 + 1) → Dec (FitsTo (some b) c)
      go (yes p) (no q) = yes (p, q)
      go (yes p) (yes q) = no (λ f. f.1 q)
      go (no p) q = no (λ f. p f.0)

  abbrev Ok : State → Choice → Type 0
  Ok s c = May R n s.0 s.1 c.0 × FitsTo s.2 c

  ok? : (s : State) (c : Choice) → Dec (Ok s c)
  ok? s c = go (may? R n s.0 s.1 c.0) (fitsTo? s.2 c)
    where
      go : Dec (May R n s.0 s.1 c.0) → Dec (FitsTo s.2 c) → Dec (Ok s c)
      go (yes p) (yes q) = yes (p, q)
      go (yes p) (no q) = no (λ f. q f.1)
      go (no p) q = no (λ f. p f.0)

  pub moves : State → List Choice
  moves s = sift (Ok s) (ok? s) (candidates (from 0 n))

  unfoldable pub next : State → Choice → State
  next s c = (suc s.0, step R s.0 s.1 c.0, some c)

  abbrev pay_from : Option Choice → Choice → ℕ
  pay_from none c = 0
  pay_from (some b) c = pay b c

  unfoldable pub toll : State → Choice → ℕ
  toll s c = own c.0 c.1 + pay_from s.2 c

  pairs_in : {c : Choice} (k : ℕ) (l : List A) → In c (pairs_of k l) → (c.0 ≡ k) × In c.1 l
  unfolding pairs_of
  pairs_in {c = c} k [] x' = elim x' [ ]
  pairs_in k (a ∷ l) (here e) = (ap (λ x. x.0) e, here (ap (λ x. x.1) e))
  pairs_in k (a ∷ l) (there m) = let r = pairs_in k l m in (r.0, there r.1)

  in_pairs : {a : A} (k : ℕ) (l : List A) → In a l → In (k, a) (pairs_of k l)
  unfolding pairs_of
  in_pairs {a = a} k [] x' = elim x' [ ]
  in_pairs k (x ∷ l) (here e) = here (ap (λ y. (k, y)) e)
  in_pairs k (x ∷ l) (there m) = there (in_pairs k l m)

  candidates_in : {c : Choice} (l : List ℕ) → In c (candidates l) → In c.1 (options c.0)
  unfolding candidates
  candidates_in {c = c} [] m = elim m [ ]
  candidates_in {c} (k ∷ l) m = go (Memᴰ.append_cases (pairs_of k (options k)) m) (candidates_in l)
    where
      go : In c (pairs_of k (options k)) ⊎ In c (candidates l) → (In c (candidates l) → In c.1 (options c.0))
          → In c.1 (options c.0)
      go (inl p) f = let r = pairs_in k (options k) p in subst (λ x. In c.1 (options x)) (sym r.0) r.1
      go (inr p) f = f p

  in_candidates : {k : ℕ} {a : A} (l : List ℕ) → In k l → In a (options k) → In (k, a) (candidates l)
  unfolding candidates
  in_candidates {k = k} {a = a} [] x'' p = elim x'' [ ]
  in_candidates {k} {a} (x ∷ l) (here e) p =
      subst (λ y. In (y, a) (candidates (x ∷ l))) (sym e)
      (Memᴰ.append_left (candidates l) (in_pairs x (options x) (subst (λ y. In a (options y)) e p)))
  in_candidates (x ∷ l) (there m) p = Memᴰ.append_right (pairs_of x (options x)) (in_candidates l m p)

  moves_in : (s : State) (c : Choice) → In c (moves s) → In c.1 (options c.0) × Ok s c
  unfolding moves
  moves_in s c m = let r = sift_in (Ok s) (ok? s) (candidates (from 0 n)) m in (candidates_in (from 0 n) r.0, r.1)

  in_moves : (s : State) (c : Choice) → In c.1 (options c.0) → Ok s c → In c (moves s)
  unfolding moves
  in_moves s c p o =
      let h = o.0.inside in
      in_sift (Ok s) (ok? s) (candidates (from 0 n))
      (in_candidates (from 0 n) (from_in c.0 0 n (omega arith) (omega arith)) p) o

  path-run : (s : State) (p : List Choice) → Path' moves next toll s p → Run R n s.0 s.1 (cells p)
  unfolding cells next
  path-run s [] h = tt
  path-run s (c ∷ p) h = ((moves_in s c h.0).1.0, path-run (next s c) p h.1)

  -- ---- a placement's choices along a list

  module _ (f : ℕ → A) where
    abbrev site : ℕ → ℕ
    site k = site_of (f k)

    abbrev wide : ℕ → ℕ
    wide k = width_of k (f k)

    abbrev mine : ℕ → ℕ
    mine k = own k (f k)

    abbrev ours : ℕ → ℕ → ℕ
    ours a b = pay (a, f a) (b, f b)

    -- the state after a, if that is the last one placed
    abbrev after : ℕ → ℕ → ℕ → State
    after i m a = (i, m, some (a, f a))

    next-path : (i m a : ℕ) (l : List ℕ) → Run R n i m l → ((k : ℕ) → In k l → In (f k) (options k))
        → Next (Fits site wide) a l
        → Path' moves next toll (after i m a) (along f l)
    unfolding along next
    next-path i m a [] r o c = tt
    next-path i m a (k ∷ l) r o c = (
      in_moves (after i m a) (k, f k) (o k (here refl)) (r.0, c.0),
      next-path (suc i) (step R i m k) k l r.1 (λ j p. o j (there p)) c.1,
    )

    chain-path : (l : List ℕ) → Run R n 0 (start R) l → ((k : ℕ) → In k l → In (f k) (options k))
        → Chain (Fits site wide) l
        → Path' moves next toll (0, start R, none) (along f l)
    unfolding along next
    chain-path [] r o c = tt
    chain-path (k ∷ l) r o c = (
      in_moves (0, start R, none) (k, f k) (o k (here refl)) (r.0, tt),
      next-path 1 (step R 0 (start R) k) k l r.1 (λ j p. o j (there p)) c,
    )

    path-next : (i m a : ℕ) (l : List ℕ) → Path' moves next toll (after i m a) (along f l)
        → Run R n i m l × ((k : ℕ) → In k l → In (f k) (options k)) × Next (Fits site wide) a l
    unfolding along next
    path-next i m a [] p = (tt, λ k m. elim m [ ], tt)
    path-next i m a (k ∷ l) p =
        let s = moves_in (after i m a) (k, f k) p.0 in
        let r = path-next (suc i) (step R i m k) k l p.1 in
        ((s.1.0, r.0), λ j q. go j q s.0 (r.1 j), (s.1.1, r.2))
      where
        go : (j : ℕ) → In j (k ∷ l) → In (f k) (options k) → (In j l → In (f j) (options j)) → In (f j) (options j)
        go j (here e) x g = rw e x
        go j (there q) x g = g q

    path-chain : (l : List ℕ) → Path' moves next toll (0, start R, none) (along f l)
        → Run R n 0 (start R) l × ((k : ℕ) → In k l → In (f k) (options k)) × Chain (Fits site wide) l
    unfolding along next
    path-chain [] p = (tt, λ k m. elim m [ ], tt)
    path-chain (k ∷ l) p =
        let s = moves_in (0, start R, none) (k, f k) p.0 in
        let r = path-next 1 (step R 0 (start R) k) k l p.1 in
        ((s.1.0, r.0), λ j q. go j q s.0 (r.1 j), r.2)
      where
        go : (j : ℕ) → In j (k ∷ l) → In (f k) (options k) → (In j l → In (f j) (options j)) → In (f j) (options j)
        go j (here e) x g = rw e x
        go j (there q) x g = g q

    cost-next : (i m a : ℕ) (l : List ℕ)
        → cost moves next toll (after i m a) (along f l) ≡ sum mine l + sum_next ours a l
    unfolding along next toll sum sum_next
    cost-next i m a [] = refl
    cost-next i m a (k ∷ l) = let r = cost-next (suc i) (step R i m k) k l in omega arith

    cost-chain : (l : List ℕ) → cost moves next toll (0, start R, none) (along f l) ≡ sum mine l + sum_neighbours ours l
    unfolding along next toll sum sum_next
    cost-chain [] = refl
    cost-chain (k ∷ l) = let r = cost-next 1 (step R 0 (start R) k) k l in omega arith

    -- what a placement costs, the cells' own costs in file order; and that it is legal
    abbrev pub total : ℕ
    total = sum mine (from 0 n) + sum_neighbours ours (order site n)

    pub record SinglePlaced : Type 0 where
      pub offered : (k : ℕ) → k < n → In (f k) (options k)
      pub legal : LegalSites R site wide n

  module _ (d : A) (w : (k : ℕ) (a : A) → In a (options k) → 0 < width_of k a) where
    -- no legal placement is cheaper than the cheapest path; if there is no path, there is no legal placement
    pub single-below : (f : ℕ → A) → SinglePlaced f → best moves next toll n (0, start R, none) ⊑ total f
    single-below f p =
        let r = legal-run R (site f) (wide f) n (λ k h. w k (f k) (p.offered k h)) p.legal in
        let l = order (site f) n in
        let q = chain-path f l r.0 (λ k m. p.offered k (order_below (site f) n k m)) r.1 in
        subst (λ x. best moves next toll n (0, start R, none) ⊑ x) (cost-chain f l
        ∙ ap (λ x. x + sum_neighbours (ours f) l) (order-sum (mine f) (site f) n))
        (best-below moves next toll n (0, start R, none) (along f l) (along-size f l ∙ order-size (site f) n) q)

    -- some legal placement costs just that
    pub single-met : (v : ℕ) → best moves next toll n (0, start R, none) ≡ some v
        → (f : ℕ → A) × SinglePlaced f × (total f ≡ v)
    single-met v e =
        let r = best-met moves next toll n (0, start R, none) v e in
        let p = r.0 in
        let l = cells p in
        let f = chosen d p in
        let a : Arranged R n l = run-arranged R n l (cells-size p ∙ r.1) (path-run (0, start R, none) p r.2) in
        let same : along f l ≡ p = along-chosen d p a.distinct in
        let q = path-chain f l (subst (λ x. Path' moves next toll (0, start R, none) x) (sym same) r.2) in
        let wd : (k : ℕ) → k < n → 0 < wide f k = λ k h. w k (f k) (q.1 k (a.all k h)) in
        let o : order (site f) n ≡ l = run-order R (site f) (wide f) n wd l a.size q.0 q.2 in (
          f,
          record {
            offered = λ k h. q.1 k (a.all k h);
            legal = run-legal R (site f) (wide f) n wd l a.size q.0 q.2;
          },
          ap₂ (λ x y. x + sum_neighbours (ours f) y) (sym (order-sum (mine f) (site f) n) ∙ ap (sum (mine f)) o) o
              ∙ sym (cost-chain f l) ∙ ap (cost moves next toll (0, start R, none)) same ∙ r.3,
        )
