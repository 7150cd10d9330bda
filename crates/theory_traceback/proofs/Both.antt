-- Two rows whose tall cells are the same, stage by stage: what the traceback left of the stages is a path in each row.
use Prim.Native.Nat.{ℕ, ◌≤◌, ◌<◌}
use Rattle.theory_tables.specs.Steps.{B}
use Rattle.theory_tables.specs.Stages.{case_table}
use Rattle.theory_tables.specs.Back.{Traced}
use Rattle.theory_traceback.specs.Rows.{RowWithTalls, Within}
use Rattle.theory_traceback.specs.Both as both
use Rattle.theory_traceback.specs.Both.{Twins, both_on}

module _ {A : Type 0} (R : ℕ) (site_of : A → ℕ) (talls : ℕ) (W₀ W₁ : RowWithTalls site_of talls)
    (Noted₀ Noted₁ : ℕ → ℕ → ℕ → Type 0) where
  abbrev BothTo : ℕ → ℕ → ℕ → ℕ → ℕ → Type 0
  BothTo I q₀ q₁ a x = both.BothTo R site_of talls W₀ W₁ Noted₀ Noted₁ I q₀ q₁ a x

  abbrev table : ℕ → ℕ → ℕ → ℕ → ℕ
  table I q₀ q₁ a = case_table W₀.deck W₁.deck R talls W₀.pos W₁.pos I q₀ q₁ a

  abbrev Traces : ℕ → ℕ → ℕ → ℕ → Type 0
  Traces I q₀ q₁ a = Traced W₀.deck W₁.deck R talls W₀.pos W₁.pos Noted₀ Noted₁ I q₀ q₁ a

  pub both_to : Twins W₀ W₁ → (I q₀ q₁ a : ℕ) → I ≤ talls → Within R site_of talls W₀ I q₀ a
      → Within R site_of talls W₁ I q₁ a → table I q₀ q₁ a < B → Traces I q₀ q₁ a
      → BothTo I q₀ q₁ a (table I q₀ q₁ a)
  both_to T = both_on R site_of talls W₀ W₁ Noted₀ Noted₁ T.poses T.pose
