-- Theorems on the definitions of specs/Row.
-- A row in general: n cells in file order, numbered from 0; cell k stands at site k and is wide k sites wide. What
-- rules 4 and 6 say of the order of the cells from left to right, and the way back.
use Rattle.std.specs.Prelude.{◌≡◌, refl, ◌≢◌, ◌⊎◌, Bool, true, false, cond, ℕ, ◌+◌, ◌<◌, length, leb}
use Rattle.std.proofs.Common.{sym, ap, ◌∙◌, inl, inr}
use mathlib.Core.List.Memᴰ
use mathlib.Core.List.Memᴰ.{head as here}
use mathlib.Core.List.Memᴰ.{tail as there}
use mathlib.Core.List.{List, [], ◌∷◌, Memᴰ as In}
use native.Mathlib.Omega.{arith}
use Rattle.lists.specs.Numbers.{from, in_from}
use Rattle.lists.specs.Membership.{distinct_from, Distinct}
use Rattle.lists.specs.Neighbours.{Pairs, Chain, Next}
use Rattle.theory_row.specs.Order.{put, sort, order, Rising}
use Rattle.theory_row.proofs.Order.{order_below, order-all, order-size}
use Rattle.theory_row.proofs.Order.{sort-rising, rising-same, rising-distinct, near-place, place-near}
use Rattle.theory_row.specs.Rules.{Clear, Rule4, Rule6, NoGapOne, sum}
use Rattle.theory_row.specs.Window.{start, Run}
use Rattle.theory_row.specs.Arranged.{Arranged}
use Rattle.theory_row.proofs.Arranged.{arranged-run, run-arranged}
use Rattle.theory_row.specs.Row.{Fits, LegalSites}

-- ---- pairs and neighbours

module _ (P : ℕ → ℕ → Type 0) where
  pub all_pairs : (l : List ℕ) → Distinct l → ((a b : ℕ) → In a l → In b l → a ≢ b → P a b) → Pairs P l
  all_pairs [] d f = tt
  all_pairs (x ∷ l) d f = (
    λ k m. f x k (here refl) (there m) (λ e. d.0 (Memᴰ.cast e m)),
    all_pairs l d.1 (λ a b p q. f a b (there p) (there q)),
  )

  pub in_pairs : (l : List ℕ) → Pairs P l → (a b : ℕ) → In a l → In b l → a ≢ b → P a b ⊎ P b a
  in_pairs [] h a b x4 _ d = elim x4 [ ]
  in_pairs (x ∷ l) h a b (here e) (here e') d = absurd (d (e ∙ sym e'))
  in_pairs (x ∷ l) h a b (here e) (there q) d = inl (rw e (h.0 b q))
  in_pairs (x ∷ l) h a b (there p) (here e) d = inr (rw e (h.0 a p))
  in_pairs (x ∷ l) h a b (there p) (there q) d = in_pairs l h.1 a b p q d

  pub pairs_next : (a : ℕ) (l : List ℕ) → Pairs P (a ∷ l) → Next P a l
  pairs_next a [] h = tt
  pairs_next a (b ∷ l) h = (h.0 b (here refl), pairs_next b l h.1)

  pub pairs_chain : (l : List ℕ) → Pairs P l → Chain P l
  pairs_chain [] h = tt
  pairs_chain (a ∷ l) h = pairs_next a l h

module _ (site wide : ℕ → ℕ) where
  next_pairs : (a : ℕ) (l : List ℕ) → ((k : ℕ) → In k l → 0 < wide k) → Next (Clear site wide) a l
      → Pairs (Clear site wide) (a ∷ l)
  next_pairs a [] w h = (λ k m. elim m [ ], tt)
  next_pairs a (b ∷ l) w h = let r = next_pairs b l (λ k m. w k (there m)) h.1 in (λ k m. go r k m, r)
    where
      go : Pairs (Clear site wide) (b ∷ l) → (k : ℕ) → In k (b ∷ l) → Clear site wide a k
      go r k (here e) = rw e h.0
      go r k (there m) = let f = r.0 k m in let g = h.0 in omega arith

  pub chain_pairs : (l : List ℕ) → ((k : ℕ) → In k l → 0 < wide k) → Chain (Clear site wide) l
      → Pairs (Clear site wide) l
  chain_pairs [] w h = tt
  chain_pairs (a ∷ l) w h = next_pairs a l (λ k m. w k (there m)) h

  pairs_rising : (l : List ℕ) → ((k : ℕ) → In k l → 0 < wide k) → Pairs (Clear site wide) l → Rising site l
  pairs_rising [] w h = tt
  pairs_rising (x ∷ l) w h = (
    λ k m. let f = h.0 k m in let g = w x (here refl) in omega arith,
    pairs_rising l (λ k m. w k (there m)) h.1,
  )

  rising-clear : (l : List ℕ) → ((a b : ℕ) → In a l → In b l → a ≢ b → Clear site wide a b ⊎ Clear site wide b a)
      → Rising site l → Pairs (Clear site wide) l
  rising-clear [] f r = tt
  rising-clear (x ∷ l) f r = (
    λ k m. go k (r.0 k m) (f x k (here refl) (there m) (λ e. let h = r.0 k m in let g = ap site e in omega arith)),
    rising-clear l (λ a b p q. f a b (there p) (there q)) r.1,
  )
    where
      go : (k : ℕ) → site x < site k → Clear site wide x k ⊎ Clear site wide k x → Clear site wide x k
      go k h (inl c) = c
      go k h (inr c) = absurd (omega arith)

module _ (site wide : ℕ → ℕ) (n R : ℕ) (w : (k : ℕ) → k < n → 0 < wide k) where
  pub order-rising : ((a b : ℕ) → a < n → b < n → a ≢ b → site a ≢ site b) → Rising site (order site n)
  unfolding order
  order-rising f = sort-rising site (from 0 n)
      (all_pairs (λ a b. site a ≢ site b) (from 0 n) (distinct_from 0 n) (λ a b p q. f a b (lt a p) (lt b q)))
    where
      lt : (a : ℕ) → In a (from 0 n) → a < n
      lt a p = let h = in_from 0 n p in omega arith

  pub rule4-sites : Rule4 site wide n → (a b : ℕ) → a < n → b < n → a ≢ b → site a ≢ site b
  rule4-sites f a b p q d e = go (f a b p q d)
    where
      go : Clear site wide a b ⊎ Clear site wide b a → ⊥
      go (inl c) = let h = w a p in omega arith
      go (inr c) = let h = w b q in omega arith

  -- the arrangement of a legal row
  pub legal-arranged : Rule4 site wide n → Rule6 R site n → Arranged R n (order site n)
  legal-arranged f g =
      let d = rising-distinct site (order site n) (order-rising (rule4-sites f)) in
      record {
        size = order-size site n;
        near = place-near R 0 (order site n) d (λ k m. let b = g k (order_below site n k m) in omega arith);
        distinct = d;
        below = order_below site n;
        all = order-all site n;
      }

  pub legal-chain : Rule4 site wide n → Chain (Clear site wide) (order site n)
  legal-chain f =
      pairs_chain (Clear site wide) (order site n)
      (rising-clear site wide (order site n) (λ a b p q. f a b (order_below site n a p) (order_below site n b q))
      (order-rising (rule4-sites f)))

  -- and the way back: an arrangement whose neighbours are clear of each other is
  -- the order of the row, and rules 4 and 6 hold
  module _ (l : List ℕ) (a : Arranged R n l) (c : Chain (Clear site wide) l) where
    wide_in_lem : (k : ℕ) → In k l → 0 < wide k
    wide_in_lem k m = w k (a.below k m)

    clear_pairs : Pairs (Clear site wide) l
    clear_pairs = chain_pairs site wide l wide_in_lem c

    pub arranged-rule4 : Rule4 site wide n
    arranged-rule4 x y p q d = in_pairs (Clear site wide) l clear_pairs x y (a.all x p) (a.all y q) d

    pub arranged-order : order site n ≡ l
    arranged-order =
        rising-same site (order site n) l (order-rising (rule4-sites arranged-rule4))
        (pairs_rising site wide l wide_in_lem clear_pairs)
        (λ k m. a.all k (order_below site n k m)) (λ k m. order-all site n k (a.below k m))

    pub arranged-rule6 : Rule6 R site n
    arranged-rule6 k h = rw arranged-order (let g = near-place R 0 l a.near (a.all k h) in omega arith)

-- ---- the row's rules and the window's runs: one and the same

next_both : (P Q : ℕ → ℕ → Type 0) (a : ℕ) (l : List ℕ) → Next P a l → Next Q a l → Next (λ x y. P x y × Q x y) a l
next_both P Q a [] p q = tt
next_both P Q a (b ∷ l) p q = ((p.0, q.0), next_both P Q b l p.1 q.1)

chain-both : (P Q : ℕ → ℕ → Type 0) (l : List ℕ) → Chain P l → Chain Q l → Chain (λ x y. P x y × Q x y) l
chain-both P Q [] p q = tt
chain-both P Q (a ∷ l) p q = next_both P Q a l p q

next_map : (P Q : ℕ → ℕ → Type 0) → ((x y : ℕ) → P x y → Q x y) → (a : ℕ) (l : List ℕ) → Next P a l → Next Q a l
next_map P Q f a [] p = tt
next_map P Q f a (b ∷ l) p = (f a b p.0, next_map P Q f b l p.1)

chain-map : (P Q : ℕ → ℕ → Type 0) → ((x y : ℕ) → P x y → Q x y) → (l : List ℕ) → Chain P l → Chain Q l
chain-map P Q f [] p = tt
chain-map P Q f (a ∷ l) p = next_map P Q f a l p

module _ (R : ℕ) (site wide : ℕ → ℕ) (n : ℕ) (w : (k : ℕ) → k < n → 0 < wide k) where
  pub legal-run : LegalSites R site wide n → Run R n 0 (start R) (order site n) × Chain (Fits site wide) (order site n)
  legal-run g = (
    arranged-run R n (order site n) (legal-arranged site wide n R w g.rule4 g.rule6),
    chain-both (Clear site wide) (NoGapOne site wide) (order site n)
        (legal-chain site wide n R w g.rule4) g.rule5,
  )

  pub run-order : (l : List ℕ) → length l ≡ n → Run R n 0 (start R) l → Chain (Fits site wide) l → order site n ≡ l
  run-order l s r c = arranged-order site wide n R w l (run-arranged R n l s r)
      (chain-map (Fits site wide) (Clear site wide) (λ x y p. p.0) l c)

  pub run-legal : (l : List ℕ) → length l ≡ n → Run R n 0 (start R) l → Chain (Fits site wide) l
      → LegalSites R site wide n
  run-legal l s r c =
      let a = run-arranged R n l s r in
      let k = chain-map (Fits site wide) (Clear site wide) (λ x y p. p.0) l c in
      record {
        rule4 = arranged-rule4 site wide n R w l a k;
        rule5 = rw (run-order l s r c) (chain-map (Fits site wide) (NoGapOne site wide) (λ x y p. p.1) l c);
        rule6 = arranged-rule6 site wide n R w l a k;
      }

-- ---- a sum over the cells is the same in file order and from left to right

put-sum : (f site : ℕ → ℕ) (k : ℕ) (l : List ℕ) → sum f (put site k l) ≡ f k + sum f l
unfolding sum put
put-sum f site k [] = refl
put-sum f site k (x ∷ l) = go (leb (site k) (site x)) (put-sum f site k l)
  where
    go : (t : Bool) → sum f (put site k l) ≡ f k + sum f l
        → sum f (cond t (k ∷ x ∷ l) (x ∷ put site k l)) ≡ f k + (f x + sum f l)
    go true e = refl
    go false e = omega arith

sort-sum : (f site : ℕ → ℕ) (l : List ℕ) → sum f (sort site l) ≡ sum f l
unfolding sum sort
sort-sum f site [] = refl
sort-sum f site (k ∷ l) = put-sum f site k (sort site l) ∙ ap (λ x. f k + x) (sort-sum f site l)

pub order-sum : (f site : ℕ → ℕ) (n : ℕ) → sum f (order site n) ≡ sum f (from 0 n)
unfolding order
order-sum f site n = sort-sum f site (from 0 n)
