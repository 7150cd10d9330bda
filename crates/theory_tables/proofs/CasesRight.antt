-- The case tables of two rows have the costs of the pair theory: for each tall cell, its state in either row and its
-- pose number, the least cost of all stages up to it; and in the end the least cost of all.
use Rattle.std.specs.Prelude.{◌≡◌, Bool, cond}
use Rattle.std.proofs.Math.Path.{refl, ap₂}
use Rattle.std.proofs.Common.{sym, ◌∙◌, subst}
use Rattle.std.proofs.Math.Bool.{true, false}
use Prim.Native.Nat.{ℕ, zero, suc, ◌+◌, min, ◌≤◌, ◌<◌}
use native.Mathlib.Omega.{arith}
use Rattle.lists.specs.Numbers.{from}
use Rattle.theory_pair.specs.Segment.{State, least, first, last}
use Rattle.theory_pair.specs.Pair.{table, ending}
use Rattle.theory_pair.specs.Coded.{coded, coded-low, lowest, lowest-low}
use Rattle.theory_pair.specs.Loops.{case_entry}
use Rattle.theory_pair.proofs.Loops.{case-first}
use Rattle.theory_tables.specs.Steps.{B, state_count, join_pose, next_cases}
use Rattle.theory_tables.specs.Stages.{open_cost, stage_cost, case_table, least_cost}
use Rattle.theory_tables.specs.Lowest.{loop_member, loop_above}
use Rattle.theory_tables.proofs.Spots.{cond_yes, cond_no}
use Rattle.theory_tables.specs.StagesRight.{Row}
use Rattle.theory_tables.proofs.StagesRight.{tall_as, Stop, stop-tall, stop-end, open_is, stage_is}
use Rattle.theory_tables.specs.CaseStates.{Alike}
use Rattle.theory_tables.proofs.CaseStates.{entry_of, case-below, case-above}

module _ {A : Type 0} (R : ℕ) (site_of : A → ℕ) (talls : ℕ) (X₀ X₁ : Row site_of talls) (same : Alike X₀ X₁) where
  abbrev table_of : ℕ → ℕ → ℕ → ℕ → ℕ
  table_of I q₀ q₁ a = case_table X₀.deck X₁.deck R talls X₀.pos X₁.pos I q₀ q₁ a

  abbrev entry_at : ℕ → State A → State A → ℕ
  entry_at I t₀ t₁ = entry_of R site_of talls X₀ X₁ same I (t₀, t₁)

  abbrev least_in : Row site_of talls → State A → State A → ℕ
  least_in X s t = coded B (least R site_of X.line s t)

  -- the table of tall cell I is right
  abbrev pub TableRight : ℕ → Type 0
  TableRight I = (s t l : ℕ) → s < state_count R → t < state_count R → l < X₀.deck.poses
      → table_of I s t l
      ≡ cond (X₀.offered (X₀.pos I) l) (entry_at I (tall_as R site_of talls X₀ I s l) (tall_as R site_of talls X₁ I t l)) B

  -- ---- the first stage

  open_case : (q₀ q₁ a : ℕ) (o : Bool) (t₀ t₁ : State A) → Stop R site_of talls X₀ 0 q₀ a o t₀
      → Stop R site_of talls X₁ 0 q₁ a o t₁ → table_of 0 q₀ q₁ a ≡ cond o (entry_at 0 t₀ t₁) B
  unfolding case_table
  open_case q₀ q₁ a o t₀ t₁ p₀ p₁ =
      go o (open_is R site_of talls X₀ q₀ a o t₀ p₀) (open_is R site_of talls X₁ q₁ a o t₁ p₁)
    where
      x₀ : ℕ
      x₀ = open_cost X₀.deck R talls X₀.pos q₀ a

      x₁ : ℕ
      x₁ = open_cost X₁.deck R talls X₁.pos q₁ a

      go : (o : Bool) → x₀ ≡ cond o (least_in X₀ (first R site_of X₀.line) t₀) B
          → x₁ ≡ cond o (least_in X₁ (first R site_of X₁.line) t₁) B → min (x₀ + x₁) B ≡ cond o (entry_at 0 t₀ t₁) B
      go true e₀ e₁ = let e = case-first B R site_of X₀.line X₁.line X₀.pos X₁.pos (t₀, t₁) in omega arith
      go false e₀ e₁ = omega arith

  -- ---- one stage more

  module _ (I : ℕ) (h : I < talls) (known : TableRight I) (q₀ q₁ a : ℕ) (o : Bool) (t₀ t₁ : State A)
      (p₀ : Stop R site_of talls X₀ (suc I) q₀ a o t₀) (p₁ : Stop R site_of talls X₁ (suc I) q₁ a o t₁) where
    -- by way of the states s and t and pose l
    by : ℕ → ℕ → ℕ → ℕ
    by s t l = table_of I s t l
        + (stage_cost X₀.deck R talls X₀.pos I s l q₀ a + stage_cost X₁.deck R talls X₁.pos I t l q₁ a)

    table-loops : table_of (suc I) q₀ q₁ a
        ≡ lowest B (λ s. lowest B (λ t. lowest B (by s t) (from 0 X₀.deck.poses)) (from 0 (state_count R)))
        (from 0 (state_count R))
    unfolding case_table next_cases join_pose by
    table-loops = refl

    -- what that comes to, if the pose is offered
    by-is : (s t l : ℕ) → s < state_count R → t < state_count R → l < X₀.deck.poses → X₀.offered (X₀.pos I) l ≡ true
        → by s t l ≡ entry_at I (tall_as R site_of talls X₀ I s l) (tall_as R site_of talls X₁ I t l)
        + (cond o (least_in X₀ (tall_as R site_of talls X₀ I s l) t₀) B
        + cond o (least_in X₁ (tall_as R site_of talls X₁ I t l) t₁) B)
    unfolding by
    by-is s t l hs ht hl e =
        let n = same.poses in
        ap₂ ◌+◌ (known s t l hs ht hl ∙ cond_yes _ _ e)
        (ap₂ ◌+◌ (stage_is R site_of talls X₀ I s l q₀ a o t₀ h hs hl e p₀)
        (stage_is R site_of talls X₁ I t l q₁ a o t₁ h ht (omega arith) (sym (same.offered I l h hl) ∙ e) p₁))

    -- no less than any bound that holds by way of the offered poses
    by-above : (x : ℕ) → x ≤ B
        → ((s t l : ℕ) → s < state_count R → t < state_count R → l < X₀.deck.poses → X₀.offered (X₀.pos I) l ≡ true
        → x ≤ by s t l) → x ≤ table_of (suc I) q₀ q₁ a
    unfolding by
    by-above x b f =
        let r = loop_above B (λ s. lowest B (λ t. lowest B (by s t) (from 0 X₀.deck.poses)) (from 0 (state_count R)))
        (state_count R) x b (λ s hs.
        loop_above B (λ t. lowest B (by s t) (from 0 X₀.deck.poses)) (state_count R) x b (λ t ht.
        loop_above B (by s t) X₀.deck.poses x b (λ l hl. go s t l hs ht hl (X₀.offered (X₀.pos I) l) refl))) in
        omega (arith, table-loops)
      where
        go : (s t l : ℕ) → s < state_count R → t < state_count R → l < X₀.deck.poses → (u : Bool)
            → X₀.offered (X₀.pos I) l ≡ u → x ≤ by s t l
        go s t l hs ht hl true e = f s t l hs ht hl e
        go s t l hs ht hl false e = let k = known s t l hs ht hl ∙ cond_no _ _ e in omega arith

    by-below : (s t l : ℕ) → s < state_count R → t < state_count R → l < X₀.deck.poses
        → table_of (suc I) q₀ q₁ a ≤ by s t l
    by-below s t l hs ht hl =
        let x =
        loop_member B (λ s. lowest B (λ t. lowest B (by s t) (from 0 X₀.deck.poses)) (from 0 (state_count R)))
        (state_count R) s hs in
        let y = loop_member B (λ t. lowest B (by s t) (from 0 X₀.deck.poses)) (state_count R) t ht in
        let z = loop_member B (by s t) X₀.deck.poses l hl in
        omega (arith, table-loops)

    table-low : table_of (suc I) q₀ q₁ a ≤ B
    table-low =
        let e = lowest-low B (λ s. lowest B (λ t. lowest B (by s t) (from 0 X₀.deck.poses)) (from 0 (state_count R)))
        (from 0 (state_count R)) in
        omega (arith, table-loops)

    -- the two sides, if the end of the stage is offered
    next_low : o ≡ true → table_of (suc I) q₀ q₁ a ≤ entry_at (suc I) t₀ t₁
    next_low e =
        case-above R site_of talls X₀ X₁ same I h (t₀, t₁) (table_of (suc I) q₀ q₁ a) table-low (λ s t l hs ht hl u.
        let x = by-below s t l hs ht hl in
        let y = by-is s t l hs ht hl u in
        let z₀ = cond_yes (least_in X₀ (tall_as R site_of talls X₀ I s l) t₀) B e in
        let z₁ = cond_yes (least_in X₁ (tall_as R site_of talls X₁ I t l) t₁) B e in
        omega (arith, table-low))

    next-high : o ≡ true → entry_at (suc I) t₀ t₁ ≤ table_of (suc I) q₀ q₁ a
    unfolding case_entry
    next-high e = by-above (entry_at (suc I) t₀ t₁) (coded-low B _) (λ s t l hs ht hl u.
        let x = case-below R site_of talls X₀ X₁ same I h (t₀, t₁) s t l hs ht hl u in
        let y = by-is s t l hs ht hl u in
        let z₀ = cond_yes (least_in X₀ (tall_as R site_of talls X₀ I s l) t₀) B e in
        let z₁ = cond_yes (least_in X₁ (tall_as R site_of talls X₁ I t l) t₁) B e in
        omega arith)

    -- and if it is not
    next-none : o ≡ false → B ≤ table_of (suc I) q₀ q₁ a
    next-none e = by-above B (omega arith) (λ s t l hs ht hl u.
        let y = by-is s t l hs ht hl u in
        let z₀ = cond_no (least_in X₀ (tall_as R site_of talls X₀ I s l) t₀) B e in
        omega arith)

    next-case : table_of (suc I) q₀ q₁ a ≡ cond o (entry_at (suc I) t₀ t₁) B
    next-case = go o refl
      where
        go : (u : Bool) → o ≡ u → table_of (suc I) q₀ q₁ a ≡ cond u (entry_at (suc I) t₀ t₁) B
        go true e = omega (arith, next_low e, next-high e)
        go false e = omega (arith, table-low, next-none e)

  -- ---- all stages

  -- tall cell I in row 1, as row 0 has it offered
  stop₁ : (I q a : ℕ) → I < talls → q < state_count R → a < X₀.deck.poses
      → Stop R site_of talls X₁ I q a (X₀.offered (X₀.pos I) a) (tall_as R site_of talls X₁ I q a)
  stop₁ I q a h k l =
      let n = same.poses in
      subst (λ o. Stop R site_of talls X₁ I q a o (tall_as R site_of talls X₁ I q a)) (sym (same.offered I a h l))
      (stop-tall R site_of talls X₁ I q a h k (omega arith))

  pub cases-right : (I : ℕ) → I < talls → TableRight I
  cases-right zero h s t l hs ht hl =
      open_case s t l (X₀.offered (X₀.pos 0) l) (tall_as R site_of talls X₀ 0 s l) (tall_as R site_of talls X₁ 0 t l)
      (stop-tall R site_of talls X₀ 0 s l h hs hl) (stop₁ 0 t l h ht hl)
  cases-right (suc I) h s t l hs ht hl =
      next-case I (omega arith) (cases-right I (omega arith)) s t l (X₀.offered (X₀.pos (suc I)) l)
      (tall_as R site_of talls X₀ (suc I) s l) (tall_as R site_of talls X₁ (suc I) t l)
      (stop-tall R site_of talls X₀ (suc I) s l h hs hl) (stop₁ (suc I) t l h ht hl)

  pub least-right : least_cost X₀.deck X₁.deck R talls X₀.pos X₁.pos
      ≡ coded B (table R site_of X₀.line X₁.line X₀.pos X₁.pos talls
      (ending R site_of X₀.line X₁.line X₀.pos X₁.pos))
  unfolding case_entry
  least-right = go talls refl
    where
      end₀ : State A
      end₀ = last R site_of X₀.line

      end₁ : State A
      end₁ = last R site_of X₁.line

      stop : (X : Row site_of talls) (n : ℕ) → n ≡ talls → Stop R site_of talls X n 0 0 true (last R site_of X.line)
      stop X n e =
          subst (λ n. Stop R site_of talls X n 0 0 true (last R site_of X.line)) (sym e) (stop-end R site_of talls X)

      go : (n : ℕ) → n ≡ talls → table_of n 0 0 0 ≡ entry_at n end₀ end₁
      go zero e = open_case 0 0 0 true end₀ end₁ (stop X₀ 0 e) (stop X₁ 0 e)
      go (suc I) e = next-case I (omega arith) (cases-right I (omega arith)) 0 0 0 true end₀ end₁ (stop X₀ (suc I) e)
          (stop X₁ (suc I) e)
