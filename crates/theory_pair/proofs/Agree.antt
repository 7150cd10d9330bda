-- Theorems on the definitions of specs/Agree.
-- Two rows of poses, one for each row, that agree on the tall cells: cut into stages, and joined from them.
use Rattle.std.specs.Prelude.{◌≡◌, refl, ℕ, ◌+◌, ◌<◌, length}
use Rattle.std.proofs.Common.{sym, ap, ◌∙◌, subst, arith}
use mathlib.Core.List.{List, Memᴰ as In}
use Rattle.theory_row.specs.Order.{order, Rising}
use Rattle.theory_row.proofs.Order.{order_below, order-all, order-size, rising-same}
use Rattle.theory_row.proofs.Window.{good_start}
use Rattle.theory_row.specs.Choices.{cells, chosen, along, along-size, cells-size}
use Rattle.theory_pair.specs.Segment.{Line, Goes, EndsWith}
use Rattle.theory_pair.specs.Segment.{first, last, cost, after}
use Rattle.theory_pair.proofs.Segment.{after-size}
use Rattle.theory_pair.specs.Pick.{pick_in, in_pick, pick_pairs}
use Rattle.theory_pair.specs.Whole.{site_in, row_total, RowPlaced, Wide}
use Rattle.theory_pair.proofs.Whole.{placed-goes, placed-ends}
use Rattle.theory_pair.specs.Whole.{talls}
use Rattle.theory_pair.proofs.Whole.{placed-cost, placed-rising, goes-placed, goes-along}
use Rattle.theory_pair.specs.Whole.{tall_of, posts, picks, poses}
use Rattle.theory_pair.proofs.Whole.{talls-along, poses-size, along-posts}
use Rattle.theory_pair.proofs.Whole.{posts_in, in_posts, posts_pairs, pairs_posts, picks-along}
use Rattle.theory_pair.specs.Cut.{Upto}
use Rattle.theory_pair.specs.Pair.{Talls, Stages, ending, opening}
use Rattle.theory_pair.proofs.Pair.{stages_joined, stages_go}
use Rattle.theory_pair.specs.Agree as defs

-- ---- one row

module _ {A : Type 0} (R : ℕ) (site_of : A → ℕ) (L : Line A) (w : Wide L) (N : ℕ) (pos : ℕ → ℕ) (T : Talls L N pos) where
  abbrev PathReady : (g : ℕ → A) (h : ℕ → A) → Type 0
  PathReady = defs.PathReady R site_of L w N pos T

  abbrev Made : (g : ℕ → A) (ps : List A) (d : A) (x : ℕ) → Type 0
  Made = defs.Made R site_of L w N pos T

  -- the tall cells of a legal row that keep their file order are, from left to right, pos 0, pos 1, ..
  order-talls : (g : ℕ → A) → RowPlaced R site_of L g
      → ((I J : ℕ) → I < J → J < N → site_of (g (pos I)) < site_of (g (pos J)))
      → talls L (order (site_in site_of L g) L.size) ≡ posts pos 0 N
  order-talls g p k =
      rising-same site (talls L l) (posts pos 0 N)
      (pick_pairs L.tall (λ a b. site a < site b) l (placed-rising R site_of L g w p))
      (posts_pairs (λ a b. site a < site b) pos 0 N (λ i j a b c. k i j b (omega arith)))
      (λ x m. let a = pick_in L.tall l m in let b = T.only x (order_below site L.size x a.0) a.1 in
      let h = b.1 in
      subst (λ y. In y (posts pos 0 N)) (sym b.2) (in_posts pos 0 N b.0 (omega arith) (omega arith)))
      (λ x m. let a = posts_in pos 0 N m in let h = a.2 in let i : a.0 < N = omega arith in
      subst (λ y. In y (talls L l)) (sym a.3)
      (in_pick L.tall l (order-all site L.size (pos a.0) (T.inside a.0 i)) (T.tall a.0 i)))
    where
      site : ℕ → ℕ
      site = site_in site_of L g

      l : List ℕ
      l = order (site_in site_of L g) L.size

  pub ready : (g : ℕ → A) (h : ℕ → A) → RowPlaced R site_of L g
      → ((I J : ℕ) → I < J → J < N → site_of (g (pos I)) < site_of (g (pos J)))
      → ((I : ℕ) → I < N → g (pos I) ≡ h I) → PathReady g h
  ready g h p k e =
      let l = order (site_in site_of L g) L.size in
      let a = after-size R site_of L (first R site_of L) (along g l) in
      let b = along-size g l in
      let c = order-size (site_in site_of L g) L.size in
      record {
        path = along g l;
        goes = placed-goes R site_of L g w p;
        talls =
            talls-along L g l ∙ ap (along g) (order-talls g p k) ∙ along-posts g pos h 0 N (λ j x y. e j (omega arith));
        ends = (omega arith, placed-ends R site_of L g p);
        total = placed-cost R site_of L g;
      }

  upto-size : (ps : List A) (x : ℕ) (u : Upto R site_of L (last R site_of L) (picks pos 0 ps) x)
      → length u.path ≡ L.size
  upto-size ps x u =
      let z : (after R site_of L (first R site_of L) u.path).0 ≡ L.size = u.move.0.0.0 in
      let y = after-size R site_of L (first R site_of L) u.path in
      omega arith

  -- a path to the row's end, if it goes by the poses g
  pub made_by : (d : A) (g : ℕ → A) (ps : List A) (x : ℕ) → length ps ≡ N
      → (u : Upto R site_of L (last R site_of L) (picks pos 0 ps) x) → along g (cells u.path) ≡ u.path → Made g ps d x
  made_by d g ps x s u same =
      let p = u.path in
      let site = site_in site_of L g in
      let r =
      goes-placed R site_of L g w (cells p) (cells-size p ∙ upto-size ps x u)
      (subst (λ q. Goes R site_of L (first R site_of L) q) (sym same) u.goes)
      (subst (λ q. EndsWith R site_of L (after R site_of L (first R site_of L) q).2) (sym same) u.move.0.0.1)
      in
      let t : along g (talls L (cells p)) ≡ picks pos 0 ps = sym (talls-along L g (cells p))
      ∙ ap (tall_of L) same ∙ u.talls in
      let a = picks-along d g pos 0 ps (talls L (cells p)) t in
      let rise : Rising site (posts pos 0 N) =
      subst (λ l. Rising site l) (a.0 ∙ ap (posts pos 0) s)
      (pick_pairs L.tall (λ i j. site i < site j) (cells p)
      (subst (λ l. Rising site l) r.1 (placed-rising R site_of L g w r.0)))
      in
      let cost-is : cost R site_of L (first R site_of L) p ≡ row_total site_of L g =
      ap (cost R site_of L (first R site_of L)) (sym same ∙ ap (along g) (sym r.1)) ∙ placed-cost R site_of L g
      in
      let e₀ = u.sum in
      let e₁ = u.move.1 in
      record {
        placed = r.0;
        keeps = λ I J h k. pairs_posts (λ i j. site i < site j) pos 0 N rise I J (omega arith) h (omega arith);
        poses = λ I h. let f : I ≡ 0 + I = omega arith in ap (λ j. g (pos j)) f ∙ a.1 I (omega arith);
        total = omega arith;
      }

-- ---- two rows

module _ {A : Type 0} (R : ℕ) (site_of : A → ℕ) (L₀ L₁ : Line A) (pos₀ pos₁ : ℕ → ℕ) (N : ℕ) where
  abbrev Agree : (g₀ g₁ : ℕ → A) → Type 0
  Agree = defs.Agree R site_of L₀ L₁ pos₀ pos₁ N

  module _ (w₀ : Wide L₀) (w₁ : Wide L₁) (T₀ : Talls L₀ N pos₀) (T₁ : Talls L₁ N pos₁)
      (same : (I : ℕ) → I < N → L₀.options (pos₀ I) ≡ L₁.options (pos₁ I)) where
    pub agree_stages : (g₀ g₁ : ℕ → A) → Agree g₀ g₁ → Stages R site_of L₀ L₁ pos₀ pos₁ N
        (ending R site_of L₀ L₁ pos₀ pos₁) (row_total site_of L₀ g₀ + row_total site_of L₁ g₁)
    agree_stages g₀ g₁ a =
        let h : ℕ → A = λ I. g₀ (pos₀ I) in
        let r₀ = ready R site_of L₀ w₀ N pos₀ T₀ g₀ h a.row₀ a.keeps (λ I l. refl) in
        let r₁ = ready R site_of L₁ w₁ N pos₁ T₁ g₁ h a.row₁ keeps₁ (λ I l. sym (a.shared I l)) in
        let e₀ = r₀.total in
        let e₁ = r₁.total in
        stages_go R site_of L₀ L₁ pos₀ pos₁ N T₀ T₁ same (poses h 0 N) 0 (opening R site_of L₀ L₁ pos₀ pos₁) 0
        (row_total site_of L₀ g₀ + row_total site_of L₁ g₁)
        (omega (arith, poses-size h 0 N))
        (λ t y s. let f : y ≡ 0 + y = omega arith in subst (λ v. Stages R site_of L₀ L₁ pos₀ pos₁ 0 t v) f s)
        (good_start R) (good_start R) r₀.path r₁.path r₀.goes r₁.goes r₀.talls r₁.talls r₀.ends
        r₁.ends (omega arith)
      where
        keeps₁ : (I J : ℕ) → I < J → J < N → site_of (g₁ (pos₁ I)) < site_of (g₁ (pos₁ J))
        keeps₁ I J h k =
            let x = a.keeps I J h k in
            let y = ap site_of (a.shared I (omega arith)) in
            let z = ap site_of (a.shared J k) in
            omega arith

    -- paths to the ends of both rows, whose tall cells have the same poses, if they go by the poses g₀ and g₁
    pub paths-agree : (d : A) (g₀ g₁ : ℕ → A) (ps : List A) (x₀ x₁ : ℕ) → length ps ≡ N
        → (u₀ : Upto R site_of L₀ (last R site_of L₀) (picks pos₀ 0 ps) x₀) → along g₀ (cells u₀.path) ≡ u₀.path
        → (u₁ : Upto R site_of L₁ (last R site_of L₁) (picks pos₁ 0 ps) x₁) → along g₁ (cells u₁.path) ≡ u₁.path
        → Agree g₀ g₁ × (row_total site_of L₀ g₀ + row_total site_of L₁ g₁ ≡ x₀ + x₁)
    paths-agree d g₀ g₁ ps x₀ x₁ s u₀ b₀ u₁ b₁ =
        let m₀ = made_by R site_of L₀ w₀ N pos₀ T₀ d g₀ ps x₀ s u₀ b₀ in
        let m₁ = made_by R site_of L₁ w₁ N pos₁ T₁ d g₁ ps x₁ s u₁ b₁ in
        let e₀ = m₀.total in
        let e₁ = m₁.total in (
          record {
            row₀ = m₀.placed;
            row₁ = m₁.placed;
            shared = λ I h. m₀.poses I h ∙ sym (m₁.poses I h);
            keeps = m₀.keeps;
          },
          omega arith,
        )

    pub stages_agree : (d : A) (x : ℕ) → Stages R site_of L₀ L₁ pos₀ pos₁ N (ending R site_of L₀ L₁ pos₀ pos₁) x
        → (g₀ : ℕ → A) × (g₁ : ℕ → A) × Agree g₀ g₁ × (row_total site_of L₀ g₀ + row_total site_of L₁ g₁ ≡ x)
    stages_agree d x s =
        let j =
        stages_joined R site_of L₀ L₁ pos₀ pos₁ N T₀ T₁ same N (ending R site_of L₀ L₁ pos₀ pos₁) x (omega arith) s in
        let b₀ = goes-along R site_of L₀ d j.row₀.path j.row₀.goes
        (upto-size R site_of L₀ w₀ N pos₀ T₀ j.ps j.x₀ j.row₀) in
        let b₁ = goes-along R site_of L₁ d j.row₁.path j.row₁.goes
        (upto-size R site_of L₁ w₁ N pos₁ T₁ j.ps j.x₁ j.row₁) in
        let g₀ = chosen d j.row₀.path in
        let g₁ = chosen d j.row₁.path in
        let r = paths-agree d g₀ g₁ j.ps j.x₀ j.x₁ j.size j.row₀ b₀ j.row₁ b₁ in
        (g₀, g₁, r.0, r.1 ∙ j.sum)
