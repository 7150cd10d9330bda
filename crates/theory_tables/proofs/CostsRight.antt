-- The cost of a segment, to a tall cell or to the row's end, is the least cost of the pair theory. Where the end of the
-- segment would not come after its start, both have no cost.
use Rattle.std.specs.Prelude.{◌≡◌, refl, Bool, ◌&&◌, leb, eqb}
use Rattle.std.proofs.Common.{sym, ap, ◌∙◌, arith}
use Rattle.std.proofs.Math.Option.{some}
use Rattle.std.proofs.Math.Bool.{true, false, not, cond}
use Prim.Native.Nat.{ℕ, suc, ◌+◌, ◌-◌, ◌≤◌, ◌<◌}
use Rattle.std.proofs.lemmas.Bool.{not-true}
use Rattle.lists.specs.Compare.{Le?, low, high, le?, Eq?, same, differs, eq?}
use Rattle.lists.specs.Numbers.{from}
use Rattle.theory_row.specs.Window.{Good}
use Rattle.theory_pair.specs.Segment.{Line, State, move, least, last}
use Rattle.theory_pair.specs.Coded.{coded, lowest, lowest-low}
use Rattle.theory_pair.specs.Loops.{entry}
use Rattle.theory_pair.proofs.Loops.{entry_first, least-entry}
use Rattle.theory_tables.specs.Steps.{B, Deck, state_count, offset, marks, last_at}
use Rattle.theory_tables.specs.Steps.{is_there, Layer, layers, cost_to, ends, cost_end}
use Rattle.theory_tables.specs.Stages.{placed_with}
use Rattle.theory_tables.specs.Matched.{Matched}
use Rattle.theory_tables.specs.Lowest.{loop_member, loop_above}
use Rattle.theory_tables.proofs.Spots.{state_of, Spot, EndCost, and_both, both-and, cond_yes}
use Rattle.theory_tables.proofs.Spots.{cond-none, is-there, is_spot, move-no, end-code}
use Rattle.theory_tables.proofs.Layers.{Right, entry-low, next-below, next-above}
use Rattle.theory_tables.proofs.Layers.{right-at, right-none, layers-right}

-- the cell at position p, just placed as state q in pose a
abbrev pub placed_as : {A : Type 0} → ℕ → (ℕ → ℕ → A) → ℕ → ℕ → ℕ → State A
placed_as R pose p q a = (placed_with R p q, marks R q, some (p, pose p a))

-- with all cells placed, state q's is a single one
abbrev is_end : Deck → ℕ → ℕ → Bool
is_end D R q = is_there D R D.size q && not (D.tall (last_at R D.size q))

module _ {A : Type 0} (R : ℕ) (site_of : A → ℕ) (L : Line A) (D : Deck) (pose : ℕ → ℕ → A) (offered : ℕ → ℕ → Bool)
    (M : Matched site_of L D pose offered) where
  -- where the target is at most one cell on
  at_most_one : (s t : State A) → t.0 ≤ suc s.0 → coded B (least R site_of L s t) ≡ coded B (move R site_of L s t)
  at_most_one s t h =
      let z : t.0 - suc s.0 ≡ 0 = omega arith in
      least-entry B R site_of L s t ∙ ap (λ j. entry B R site_of L s j t) z ∙ entry_first B R site_of L s t

  -- what the last cell pays, with its cost
  abbrev last_pays : Layer → ℕ → ℕ → ℕ
  last_pays f q b = f q b + D.back (last_at R D.size q) b

  to_end : (q b : ℕ) → Spot D R offered D.size q b
      → coded B (move R site_of L (state_of R pose D.size q b) (last R site_of L)) ≡ D.back (last_at R D.size q) b
  to_end q b p =
      let size = M.size in
      let h = p.inside in
      end-code R site_of L D pose offered M D.size (marks R q) (last_at R D.size q) b (omega arith)
      p.pose p.offer size

  module _ (s : State A) (g : Good R s.1) (j : ℕ) (f : Layer)
      (r : Right R site_of L D pose offered s j D.size f) where
    ends_low : ends D R f ≤ entry B R site_of L s (suc j) (last R site_of L)
    unfolding ends
    ends_low = next-above R site_of L D pose offered M s j D.size (last R site_of L) r.placed g (ends D R f)
        (lowest-low B _ _) (λ q b p n.
        let size = M.size in
        let h = p.inside in
        let single : D.tall (last_at R D.size q) ≡ false = M.tall _ (omega arith) ∙ n in
        let y : is_end D R q ≡ true = both-and (is-there D R D.size q p.low h) (ap not single) in
        let z₀ = loop_member B (λ q. cond (is_end D R q) (lowest B (last_pays f q) (from 0 D.poses)) B)
        (state_count R) q p.state in
        let z₁ = cond_yes (lowest B (last_pays f q) (from 0 D.poses)) B y in
        let z₂ = loop_member B (last_pays f q) D.poses b p.pose in
        let c = to_end q b p in
        let z₃ = right-at R site_of L D pose offered M s j D.size f r q b p in
        omega arith)

    ends-high : entry B R site_of L s (suc j) (last R site_of L) ≤ ends D R f
    unfolding ends
    ends-high = loop_above B _ (state_count R) x (entry-low R site_of L s (suc j) (last R site_of L))
        (λ q h. go q h (is_end D R q) refl)
      where
        x : ℕ
        x = entry B R site_of L s (suc j) (last R site_of L)

        at : (q : ℕ) → q < state_count R → is_end D R q ≡ true → (b : ℕ) → b < D.poses
            → (t : Bool) → (is_there D R D.size q && offered (last_at R D.size q) b) ≡ t → x ≤ last_pays f q b
        at q h e b l true z =
            let k = last_at R D.size q in
            let p = is_spot D R D.size q offered b h l z in
            let size = M.size in
            let i₀ = p.inside in
            let single : L.tall k ≡ false = sym (M.tall k (omega arith))
            ∙ not-true (D.tall k) (and_both (is_there D R D.size q) (not (D.tall k)) e).1 in
            let y = next-below R site_of L D pose offered M s j D.size (last R site_of L) r.placed q b p single in
            let c₀ = to_end q b p in
            let c₁ = right-at R site_of L D pose offered M s j D.size f r q b p in
            omega arith
        at q h e b l false z =
            let c₀ = right-none R site_of L D pose offered M s j D.size f r q b h l z in
            let c₁ = entry-low R site_of L s (suc j) (last R site_of L) in
            omega arith

        go : (q : ℕ) → q < state_count R → (t : Bool) → is_end D R q ≡ t
            → x ≤ cond t (lowest B (last_pays f q) (from 0 D.poses)) B
        go q h true e =
            loop_above B (last_pays f q) D.poses x (entry-low R site_of L s (suc j) (last R site_of L))
            (λ b l. at q h e b l (is_there D R D.size q && offered (last_at R D.size q) b) refl)
        go q h false e = entry-low R site_of L s (suc j) (last R site_of L)

  module _ (s : State A) (g : Good R s.1) (f : Layer) (r : Right R site_of L D pose offered s 0 (suc s.0) f) where
    pub cost-to : (p q a : ℕ) → p < D.size → q < state_count R → a < D.poses
        → cost_to D R f (suc s.0) p q a ≡ cond (offered p a) (coded B (least R site_of L s (placed_as R pose p q a))) B
    unfolding cost_to
    cost-to p q a h k l = go (leb (suc s.0 + offset R q) (p + suc R)) (le? (suc s.0 + offset R q) (p + suc R))
      where
        n : ℕ
        n = placed_with R p q

        t : State A
        t = placed_as R pose p q a

        go : (b : Bool) → Le? (suc s.0 + offset R q) (p + suc R) b
            → cond b (layers D R f (suc s.0) (n - suc s.0) q a) B
            ≡ cond (offered p a) (coded B (least R site_of L s t)) B
        go true (low c) =
            let z : last_at R n q ≡ p = omega arith in
            let j = n - suc s.0 in
            (layers-right R site_of L D pose offered M s f g r j n (omega arith)).segment_cost q a k l
            ∙ ap (λ b. cond (b && offered (last_at R n q) a) (entry B R site_of L s j (state_of R pose n q a)) B)
            (is-there D R n q (omega arith) (omega arith))
            ∙ ap (λ k. cond (offered k a) (entry B R site_of L s j (n, marks R q, some (k, pose k a))) B) z
            ∙ ap (λ x. cond (offered p a) x B) (sym (least-entry B R site_of L s t))
        go false (high c) =
            sym (cond-none (offered p a) _
            (at_most_one s t (omega arith) ∙ move-no R site_of L s t (λ v. let e = v.1.0 in omega arith)))

    pub cost-end : (e : ℕ) → EndCost R site_of L s e
        → cost_end D R f (suc s.0) e ≡ coded B (least R site_of L s (last R site_of L))
    unfolding cost_end
    cost-end e ending = go (leb (suc s.0) D.size) (eqb (suc s.0) (suc D.size)) (le? _ _) (eq? _ _)
      where
        end : State A
        end = last R site_of L

        j : ℕ
        j = D.size - suc s.0

        size : D.size ≡ L.size
        size = M.size

        go : (b c : Bool) → Le? (suc s.0) D.size b → Eq? (suc s.0) (suc D.size) c
            → cond b (ends D R (layers D R f (suc s.0) j)) (cond c e B) ≡ coded B (least R site_of L s end)
        go true c (low h) v =
            let z : suc L.size - suc s.0 ≡ suc j = omega (arith, size) in
            let w = layers-right R site_of L D pose offered M s f g r j D.size (omega arith) in
            let lo = ends_low s g j (layers D R f (suc s.0) j) w in
            let hi = ends-high s g j (layers D R f (suc s.0) j) w in
            let x = least-entry B R site_of L s end ∙ ap (λ j. entry B R site_of L s j end) z in
            omega arith
        go false true (high h) (same y) = sym (at_most_one s end (omega (arith, size)) ∙ ending (omega (arith, size)))
        go false false (high h) (differs n) =
            sym (at_most_one s end (omega (arith, size))
            ∙ move-no R site_of L s end (λ v. let y = v.0.0 in n (omega (arith, size))))
