-- Theorems on the definitions of specs/Most.
-- The most staples, from the recurrence: where it comes to B no placement of this kind exists; otherwise a placement by
-- site numbers that cover so few sites has the most, and there are such numbers.
use Rattle.std.specs.Prelude.{ℕ, ◌+◌, ◌-◌, ◌≤◌, ◌<◌, ◌≡◌, refl, true, List}
use Rattle.std.proofs.Common.{sym, subst, arith}
use Rattle.std.proofs.Math.Option.{none, some}
use Rattle.definition.specs.Job.{Job}
use Rattle.definition.specs.Placement.{Pose, Placement}
use Rattle.definition.specs.Moves.{Move, after}
use Rattle.definition.specs.Staples.{in_file_order, stapleable, Plain, staples, MostStaples}
use Rattle.definition_laws.specs.Sound.{Sound}
use Rattle.theory_pair.specs.Cells.{row₀, row₁}
use Rattle.theory_tables.specs.Steps.{B}
use Rattle.theory_bridge.proofs.Reached.{reached}
use Rattle.theory_bridge.specs.Answer.{placement_by}
use Rattle.theory_cover.proofs.Covered.{row-size}
use Rattle.theory_cover.proofs.Fewest.{fewest-below, fewest-met}
use Rattle.theory_staples.specs.JobRow.{row_of_job}
use Rattle.theory_staples.proofs.JobRow.{inside-row}
use Rattle.theory_staples.specs.ByNumbers.{RowsBy, covered_by, PosedBy}
use Rattle.theory_staples.proofs.ByNumbers.{sound_file, plain-numbers}
use Rattle.theory_staples.proofs.ByNumbers.{numbers-plain, numbers-staples}
use Rattle.theory_staples.specs.Most.{fewest_covered}

-- ---- answers, from what holds of every placement

clash : {P : Placement} → none ≡ some P → ⊥
clash e = let z : ◌≡◌ {A = ℕ} 0 1 = cc in omega arith

answer-none : (j : Job) → ((Q : Placement) → ¬ Plain j Q) → MostStaples j none
answer-none j no_plain = record {
  plain = λ P e. absurd (clash e);
  most = λ P e. absurd (clash e);
  none_when = (λ e ms. no_plain (after j ms), λ g. refl);
}

answer-some : (j : Job) → Sound j → (P : Placement) → Plain j P
    → ((Q : Placement) → Plain j Q → staples j Q ≤ staples j P) → MostStaples j (some P)
unfolding after
answer-some j sound P p most = record {
  plain = λ Q e. subst (Plain j) (same e) p;
  most = λ Q e ms q. subst (λ X. staples j (after j ms) ≤ staples j X) (same e) (most (after j ms) q);
  none_when = (λ e. absurd (clash (sym e)), λ g. absurd (g r.0 (subst (Plain j) (sym r.1) p)));
}
  where
    r : (ms : List Move) × (after (in_file_order j) ms ≡ P)
    r = reached (in_file_order j) (sound_file j sound) P p.legal

    same : {Q : Placement} → some P ≡ some Q → P ≡ Q
    same e = cc

-- ---- the recurrence

module _ (j : Job) (sound : Sound j) (able : stapleable j ≡ true) where
  abbrev sites : ℕ
  sites = j.header.sites

  covered-below : (ts us : List ℕ) → RowsBy j ts us → fewest_covered j ≤ covered_by j ts us
  covered-below ts us l =
      fewest-below (row_of_job j row₀) (row_of_job j row₁) sites (inside-row j row₀ sound) (inside-row j row₁ sound)
      ((row_of_job j row₀).size + (row_of_job j row₁).size) 0 0 0 0 ts us
      (omega (arith, row-size (row_of_job j row₀) 0 0 ts l.row₀, row-size (row_of_job j row₁) 0 0 us l.row₁)) l

  -- no placement of this kind leaves more sites free
  staples-below : (Q : Placement) → Plain j Q → staples j Q + fewest_covered j ≤ sites
  staples-below Q p =
      let a = plain-numbers j sound able Q p in
      omega (arith, covered-below a.0 a.1 a.2, a.3)

  pub most-none : fewest_covered j ≡ B → MostStaples j none
  most-none e = answer-none j (λ Q p. omega (arith, staples-below Q p, sound.header.few_sites))

  pub most-some : (f : ℕ → Pose) (ts us : List ℕ) → RowsBy j ts us → PosedBy j f row₀ ts → PosedBy j f row₁ us
      → covered_by j ts us ≡ fewest_covered j
      → MostStaples j (some (placement_by j f)) × (staples j (placement_by j f) ≡ sites - fewest_covered j)
  most-some f ts us l posed₀ posed₁ e =
      let s = numbers-staples j sound able f ts us l posed₀ posed₁ in (
        answer-some j sound (placement_by j f) (numbers-plain j sound able f ts us l posed₀ posed₁)
            (λ Q p. omega (arith, staples-below Q p)),
        omega arith,
      )

  pub most-met : fewest_covered j < B → (ts us : List ℕ) × RowsBy j ts us × (covered_by j ts us ≡ fewest_covered j)
  most-met h =
      let m =
      fewest-met (row_of_job j row₀) (row_of_job j row₁) sites (inside-row j row₀ sound) (inside-row j row₁ sound)
      ((row_of_job j row₀).size + (row_of_job j row₁).size) 0 0 0 0 (omega arith) (omega arith) (omega arith) h
      in
      (m.first, m.second, m.rows, m.count)
