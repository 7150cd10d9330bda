-- Theorems on the definitions of specs/Whole.
-- One row, whole: a legal row is a path from the row's start to its end, and back; and where its tall cells stand.
use Rattle.std.specs.Prelude.{◌≡◌, ◌≢◌, Bool, ℕ, zero, suc, ◌+◌, ◌≤◌, ◌<◌, length, get_or}
use Rattle.std.proofs.Math.Path.{refl, ap, subst}
use Rattle.std.proofs.Common.{sym, ap₂, ◌∙◌}
use mathlib.Core.List.Memᴰ.{head as here}
use mathlib.Core.List.Memᴰ.{tail as there}
use mathlib.Core.List.{List, [], ◌∷◌, Memᴰ as In}
use Rattle.std.proofs.Math.Option.{some}
use Rattle.std.proofs.Math.Bool.{true, false, cond}
use native.Mathlib.Omega.{arith}
use Rattle.lists.specs.Neighbours.{Chain, Next, Pairs}
use Rattle.theory_row.specs.Order.{order, Rising}
use Rattle.theory_row.proofs.Order.{order_below, order-size}
use Rattle.theory_row.specs.Rules.{sum, sum_next, sum_neighbours}
use Rattle.theory_row.specs.Window.{start, step, Run}
use Rattle.theory_row.specs.Arranged.{Arranged}
use Rattle.theory_row.proofs.Arranged.{run-arranged}
use Rattle.theory_row.specs.Row.{Fits}
use Rattle.theory_row.proofs.Row.{legal-run, run-legal, run-order, order-sum, order-rising}
use Rattle.theory_row.proofs.Row.{rule4-sites}
use Rattle.theory_row.specs.Choices.{cells, chosen, along, along-chosen}
use Rattle.theory_row.specs.Choices.{along-same, cells-size}
use Rattle.theory_pair.specs.Pick.{pick}
use Rattle.theory_pair.specs.Segment.{Line, Choice, State, Goes}
use Rattle.theory_pair.specs.Segment.{EndsWith, next, first, cost, after}
use Rattle.theory_pair.specs.Ends.{last_from, Ended}
use Rattle.theory_pair.specs.Whole.{site_in, wide_in, mine, ours, opens_in, closes_in, row_total, RowPlaced, Wide, talls, tall_of, posts, picks, poses}

module _ {A : Type 0} (R : ℕ) (site_of : A → ℕ) (L : Line A) (g : ℕ → A) where
  next-goes : (i m a : ℕ) (l : List ℕ) → Run R L.size i m l → ((k : ℕ) → In k l → In (g k) (L.options k))
      → Next (Fits (site_in site_of L g) (wide_in site_of L g)) a l
      → Goes R site_of L (i, m, some (a, g a)) (along g l)
  unfolding along
  next-goes i m a [] r o c = tt
  next-goes i m a (k ∷ l) r o c =
      ((r.0, c.0), o k (here refl), next-goes (suc i) (step R i m k) k l r.1 (λ j p. o j (there p)) c.1)

  chain-goes : (l : List ℕ) → Run R L.size 0 (start R) l → ((k : ℕ) → In k l → In (g k) (L.options k))
      → Chain (Fits (site_in site_of L g) (wide_in site_of L g)) l
      → Ended (opens_in site_of L g) (closes_in site_of L g) l → Goes R site_of L (first R site_of L) (along g l)
  unfolding along
  chain-goes [] r o c e = tt
  chain-goes (k ∷ l) r o c e =
      ((r.0, e.0), o k (here refl), next-goes 1 (step R 0 (start R) k) k l r.1 (λ j p. o j (there p)) c)

  -- the last cell of a path is that of its list
  last-next : (i m a : ℕ) (l : List ℕ)
      → (after R site_of L (i, m, some (a, g a)) (along g l)).2 ≡ some (last_from a l, g (last_from a l))
  unfolding along
  last-next i m a [] = refl
  last-next i m a (k ∷ l) = last-next (suc i) (step R i m k) k l

  ended-last : (l : List ℕ) → Ended (opens_in site_of L g) (closes_in site_of L g) l
      → EndsWith R site_of L (after R site_of L (first R site_of L) (along g l)).2
  unfolding along
  ended-last [] e = tt
  ended-last (k ∷ l) e = subst (EndsWith R site_of L) (sym (last-next 1 (step R 0 (start R) k) k l)) e.1

  last-ended : (l : List ℕ) → Goes R site_of L (first R site_of L) (along g l)
      → EndsWith R site_of L (after R site_of L (first R site_of L) (along g l)).2
      → Ended (opens_in site_of L g) (closes_in site_of L g) l
  unfolding along
  last-ended [] p e = tt
  last-ended (k ∷ l) p e = (p.0.1, subst (EndsWith R site_of L) (last-next 1 (step R 0 (start R) k) k l) e)

  first_of : (k j : ℕ) (l : List ℕ) → In j (k ∷ l) → In (g k) (L.options k) → (In j l → In (g j) (L.options j))
      → In (g j) (L.options j)
  first_of k j l (here e) x f = rw e x
  first_of k j l (there q) x f = f q

  goes-next : (i m a : ℕ) (l : List ℕ) → Goes R site_of L (i, m, some (a, g a)) (along g l)
      → Run R L.size i m l × ((k : ℕ) → In k l → In (g k) (L.options k))
      × Next (Fits (site_in site_of L g) (wide_in site_of L g)) a l
  unfolding along
  goes-next i m a [] p = (tt, λ k q. elim q [ ], tt)
  goes-next i m a (k ∷ l) p =
      let r = goes-next (suc i) (step R i m k) k l p.2 in
      ((p.0.0, r.0), λ j q. first_of k j l q p.1 (r.1 j), (p.0.1, r.2))

  goes-chain : (l : List ℕ) → Goes R site_of L (first R site_of L) (along g l)
      → Run R L.size 0 (start R) l × ((k : ℕ) → In k l → In (g k) (L.options k))
      × Chain (Fits (site_in site_of L g) (wide_in site_of L g)) l
  unfolding along
  goes-chain [] p = (tt, λ k q. elim q [ ], tt)
  goes-chain (k ∷ l) p =
      let r = goes-next 1 (step R 0 (start R) k) k l p.2 in
      ((p.0.0, r.0), λ j q. first_of k j l q p.1 (r.1 j), r.2)

  cost-next : (i m a : ℕ) (l : List ℕ)
      → cost R site_of L (i, m, some (a, g a)) (along g l) ≡ sum (mine site_of L g) l + sum_next (ours site_of L g) a l
  unfolding along sum sum_next
  cost-next i m a [] = refl
  cost-next i m a (k ∷ l) = let r = cost-next (suc i) (step R i m k) k l in omega arith

  cost-chain : (l : List ℕ)
      → cost R site_of L (first R site_of L) (along g l) ≡ sum (mine site_of L g) l + sum_neighbours (ours site_of L g) l
  unfolding along sum sum_next
  cost-chain [] = refl
  cost-chain (k ∷ l) = let r = cost-next 1 (step R 0 (start R) k) k l in omega arith

  -- a legal row's order, with its poses, is a path from the start, after which
  -- the row may end; and costs what the row costs
  pub placed-goes : Wide L → RowPlaced R site_of L g
      → Goes R site_of L (first R site_of L) (along g (order (site_in site_of L g) L.size))
  placed-goes w p =
      let r =
      legal-run R (site_in site_of L g) (wide_in site_of L g) L.size (λ k h. w k (g k) (p.offered k h)) p.legal in
      let l = order (site_in site_of L g) L.size in
      chain-goes l r.0 (λ k m. p.offered k (order_below (site_in site_of L g) L.size k m)) r.1 p.ended

  pub placed-ends : RowPlaced R site_of L g
      → EndsWith R site_of L (after R site_of L (first R site_of L) (along g (order (site_in site_of L g) L.size))).2
  placed-ends p = ended-last (order (site_in site_of L g) L.size) p.ended

  pub placed-cost : cost R site_of L (first R site_of L) (along g (order (site_in site_of L g) L.size))
      ≡ row_total site_of L g
  placed-cost =
      cost-chain (order (site_in site_of L g) L.size)
      ∙ ap (λ x. x + sum_neighbours (ours site_of L g) (order (site_in site_of L g) L.size))
      (order-sum (mine site_of L g) (site_in site_of L g) L.size)

  -- no two cells of a legal row have the same site
  pub placed-sites : Wide L → RowPlaced R site_of L g → (a b : ℕ) → a < L.size → b < L.size → a ≢ b
      → site_in site_of L g a ≢ site_in site_of L g b
  placed-sites w p = rule4-sites (site_in site_of L g) (wide_in site_of L g) L.size R (λ k h. w k (g k) (p.offered k h))
      p.legal.rule4

  pub placed-rising : Wide L → RowPlaced R site_of L g → Rising (site_in site_of L g) (order (site_in site_of L g) L.size)
  placed-rising w p = order-rising (site_in site_of L g) (wide_in site_of L g) L.size R
      (λ k h. w k (g k) (p.offered k h)) (placed-sites w p)

  -- a path from the start over all cells after which the row may end, if it goes by the poses g, is a legal
  -- row's order, and costs what that row costs
  pub goes-placed : Wide L → (l : List ℕ) → length l ≡ L.size → Goes R site_of L (first R site_of L) (along g l)
      → EndsWith R site_of L (after R site_of L (first R site_of L) (along g l)).2
      → RowPlaced R site_of L g × (order (site_in site_of L g) L.size ≡ l)
  goes-placed w l s h e =
      let q = goes-chain l h in
      let a : Arranged R L.size l = run-arranged R L.size l s q.0 in
      let wd : (k : ℕ) → k < L.size → 0 < wide_in site_of L g k = λ k z. w k (g k) (q.1 k (a.all k z)) in
      let o = run-order R (site_in site_of L g) (wide_in site_of L g) L.size wd l s q.0 q.2 in (
        record {
          offered = λ k z. q.1 k (a.all k z);
          legal = run-legal R (site_in site_of L g) (wide_in site_of L g) L.size wd l s q.0 q.2;
          ended = subst (Ended (opens_in site_of L g) (closes_in site_of L g)) (sym o) (last-ended l h e);
        },
        o,
      )

module _ {A : Type 0} (R : ℕ) (site_of : A → ℕ) (L : Line A) where
  goes-run : (s : State A) (p : List (Choice A)) → Goes R site_of L s p → Run R L.size s.0 s.1 (cells p)
  unfolding cells
  goes-run s [] h = tt
  goes-run s (c ∷ p) h = (h.0.0, goes-run (next R site_of L s c) p h.2)

  -- a path over all cells goes by the poses that it chooses
  pub goes-along : (d : A) (p : List (Choice A)) → Goes R site_of L (first R site_of L) p → length p ≡ L.size
      → along (chosen d p) (cells p) ≡ p
  goes-along d p h s = along-chosen d p
      (run-arranged R L.size (cells p) (cells-size p ∙ s) (goes-run (first R site_of L) p h)).distinct

  -- poses that are the same in the row make the same row
  pub placed_same : Wide L → (g h : ℕ → A) → ((k : ℕ) → k < L.size → g k ≡ h k) → RowPlaced R site_of L g
      → RowPlaced R site_of L h × (row_total site_of L h ≡ row_total site_of L g)
  placed_same w g h e p =
      let l = order (site_in site_of L g) L.size in
      let c = cost R site_of L (first R site_of L) in
      let same : along g l ≡ along h l =
      along-same g h l (λ k m. e k (order_below (site_in site_of L g) L.size k m)) in
      let r =
      goes-placed R site_of L h w l (order-size (site_in site_of L g) L.size)
      (subst (λ q. Goes R site_of L (first R site_of L) q) same (placed-goes R site_of L g w p))
      (subst (λ q. EndsWith R site_of L (after R site_of L (first R site_of L) q).2) same (placed-ends R site_of L g p))
      in (
        r.0,
        sym (placed-cost R site_of L h) ∙ ap (λ q. c (along h q)) r.1 ∙ ap c (sym same) ∙ placed-cost R site_of L g,
      )

-- ---- the tall ones of a list

module _ {A : Type 0} (L : Line A) where
  pub talls-along : (g : ℕ → A) (l : List ℕ) → tall_of L (along g l) ≡ along g (talls L l)
  unfolding tall_of pick along
  talls-along g [] = refl
  talls-along g (k ∷ l) = go (L.tall k) (talls-along g l)
    where
      go : (t : Bool) → tall_of L (along g l) ≡ along g (talls L l)
          → cond t ((k, g k) ∷ tall_of L (along g l)) (tall_of L (along g l))
          ≡ along g (cond t (k ∷ talls L l) (talls L l))
      go true e = ap (λ x. (k, g k) ∷ x) e
      go false e = e

-- ---- the tall cells of a row, in file order: pos 0, pos 1, ..

pub poses-size : {A : Type 0} (h : ℕ → A) (i d : ℕ) → length (poses h i d) ≡ d
unfolding poses
poses-size h i zero = refl
poses-size h i (suc d) = ap suc (poses-size h (suc i) d)

pub along-posts : {A : Type 0} (g : ℕ → A) (pos : ℕ → ℕ) (h : ℕ → A) (i d : ℕ)
    → ((j : ℕ) → i ≤ j → j < i + d → g (pos j) ≡ h j) → along g (posts pos i d) ≡ picks pos i (poses h i d)
unfolding along posts picks poses
along-posts g pos h i zero e = refl
along-posts g pos h i (suc d) e = ap₂ (λ x y. (pos i, x) ∷ y) (e i (omega arith) (omega arith))
    (along-posts g pos h (suc i) d (λ j l u. e j (omega arith) (omega arith)))

pub posts_in : (pos : ℕ → ℕ) {k : ℕ} (i d : ℕ) → In k (posts pos i d) → (j : ℕ) × (i ≤ j) × (j < i + d) × (k ≡ pos j)
unfolding posts
posts_in pos {k = k} i zero x' = elim x' [ ]
posts_in pos i (suc d) (here e) = (i, omega arith, omega arith, e)
posts_in pos i (suc d) (there m) =
    let r = posts_in pos (suc i) d m in
    let a = r.1 in
    let b = r.2 in
    (r.0, omega arith, omega arith, r.3)

pub in_posts : (pos : ℕ → ℕ) (i d j : ℕ) → i ≤ j → j < i + d → In (pos j) (posts pos i d)
unfolding posts
in_posts pos i zero j l u = absurd (omega arith)
in_posts pos i (suc d) j l u = go (native.Mathlib.Decide.ℕ_discrete j i) (λ h. in_posts pos (suc i) d j h (omega arith))
  where
    go : Dec (j ≡ i) → (suc i ≤ j → In (pos j) (posts pos (suc i) d)) → In (pos j) (pos i ∷ posts pos (suc i) d)
    go (yes e) f = here (ap pos e)
    go (no e) f = there (f (omega arith))

pub posts_pairs : (P : ℕ → ℕ → Type 0) (pos : ℕ → ℕ) (i d : ℕ)
    → ((j k : ℕ) → i ≤ j → j < k → k < i + d → P (pos j) (pos k)) → Pairs P (posts pos i d)
unfolding posts
posts_pairs P pos i zero h = tt
posts_pairs P pos i (suc d) h = (
  λ k m. let r = posts_in pos (suc i) d m in let a = r.1 in let b = r.2 in
      subst (λ x. P (pos i) x) (sym r.3) (h i r.0 (omega arith) (omega arith) (omega arith)),
  posts_pairs P pos (suc i) d (λ j k a b c. h j k (omega arith) b (omega arith)),
)

pub pairs_posts : (P : ℕ → ℕ → Type 0) (pos : ℕ → ℕ) (i d : ℕ) → Pairs P (posts pos i d) → (j k : ℕ) → i ≤ j → j < k
    → k < i + d → P (pos j) (pos k)
unfolding posts
pairs_posts P pos i zero h j k a b c = absurd (omega arith)
pairs_posts P pos i (suc d) h j k a b c =
    go (native.Mathlib.Decide.ℕ_discrete j i) (λ f. pairs_posts P pos (suc i) d h.1 j k f b (omega arith))
  where
    go : Dec (j ≡ i) → (suc i ≤ j → P (pos j) (pos k)) → P (pos j) (pos k)
    go (yes e) f =
        subst (λ x. P (pos x) (pos k)) (sym e) (h.0 (pos k) (in_posts pos (suc i) d k (omega arith) (omega arith)))
    go (no e) f = f (omega arith)

-- if a list goes by g, and its tall ones are pos i, pos (i + 1), .. with the poses of ps, then g has those poses there
pub picks-along : {A : Type 0} (d : A) (g : ℕ → A) (pos : ℕ → ℕ) (i : ℕ) (ps : List A) (ks : List ℕ)
    → along g ks ≡ picks pos i ps
    → (ks ≡ posts pos i (length ps)) × ((j : ℕ) → j < length ps → g (pos (i + j)) ≡ get_or ps j d)
unfolding along posts picks
picks-along d g pos i [] [] e = (refl, λ j h. absurd (omega arith))
picks-along d g pos i [] (k ∷ ks) e = absurd (let z : ◌≡◌ {A = ℕ} 0 1 = cc in omega arith)
picks-along d g pos i (a ∷ ps) [] e = absurd (let z : ◌≡◌ {A = ℕ} 0 1 = cc in omega arith)
picks-along {A} d g pos i (a ∷ ps) (k ∷ ks) e =
    let c : ◌≡◌ {A = Choice A} (k, g k) (pos i, a) = cc in
    let t : along g ks ≡ picks pos (suc i) ps = cc in
    let k₀ : k ≡ pos i = ap (λ x. x.0) c in
    let a₀ : g k ≡ a = ap (λ x. x.1) c in
    let r = picks-along d g pos (suc i) ps ks t in
    (ap₂ ◌∷◌ k₀ r.0, λ j h. at j h k₀ a₀ r.1)
  where
    at : (j : ℕ) → j < suc (length ps) → k ≡ pos i → g k ≡ a
        → ((j : ℕ) → j < length ps → g (pos (suc i + j)) ≡ get_or ps j d) → g (pos (i + j)) ≡ get_or (a ∷ ps) j d
    at zero h k₀ a₀ f = let z : i + 0 ≡ i = omega arith in ap (λ x. g (pos x)) z ∙ sym (ap g k₀) ∙ a₀
    at (suc j) h k₀ a₀ f = let z : i + suc j ≡ suc i + j = omega arith in ap (λ x. g (pos x)) z ∙ f j (omega arith)
