-- The rules in their order: all before one hold, and so it is that one that decides.
use Rattle.std.specs.Prelude.{ℕ, zero, suc, ◌<◌, ◌≡◌, refl, Bool, List, [], ◌∷◌, length, None, Result, Ok, Err}
use Rattle.std.specs.Result.{result_err}
use Rattle.std.proofs.Common.{sym, ap, ◌∙◌, arith}
use Rattle.definition.specs.Lists.{from}
use Rattle.definition.specs.Job as paper
use Rattle.definition.specs.Placement as text
use Rattle.definition.specs.Rules as definition
use Rattle.definition.specs.Rules.{cells_of, rules, rule_of, lowest, first_broken, verdict}
use Rattle.job.specs.Value.{job_of, placement_of}
use Rattle.score_order.specs.declared.Stand.{Stand}
use Rattle.score_cell_rules.specs.Lowest.{lowest-same, lowest-zero}
use Rattle.score_cell_rules.specs.Marks.{marked_in, Added, Unmarked, unmarked_still, marked-is}
use Rattle.score_verdict.specs.declared.Breach.{Breach}
use Rattle.score_verdict.specs.Judged.{VerdictMarked, LowestTold}
use Rattle.score_verdict.specs.Board.{Board}

-- No rule before number `rule` has marked a cell, and the verdict is that of the rules from it on, which are `left`.
pub record Held (j : paper.Job) (P : text.Placement) (rule : ℕ) (left : List (ℕ → Bool)) (marks : List Bool) : Type 0 where
  pub count : length j.cells ≡ length marks
  pub unmarked : Unmarked marks
  pub decided : verdict j P ≡ first_broken rule left (cells_of j)

pub held_first : {job : _} {P : _} {stands : List Stand} {order₀ order₁ : List ℕ} {m : List Bool} → Board job P stands order₀ order₁ m
    → Held (job_of job) (placement_of P) 1 (rules (job_of job) (placement_of P)) m
unfolding verdict
held_first b = record { count = b.flat.count ∙ b.count ∙ sym b.given.long; unmarked = b.given.clear; decided = refl }

-- the first rule that is left has marked its cells, of which the lowest is known
module _ {j : paper.Job} {P : text.Placement} {rule : ℕ} {f : ℕ → Bool} {left : List (ℕ → Bool)} {m m' : List Bool}
    (h : Held j P rule (f ∷ left) m) (a : Added f m m') where
  many : length j.cells ≡ length m'
  many = h.count ∙ sym a.long

  marked-lowest : lowest (marked_in m') (from 0 (length m')) ≡ lowest f (from 0 (length m'))
  marked-lowest = lowest-same (marked_in m') f 0 (length m') (λ k _ l. marked-is h.unmarked a k (omega arith))

  of-all : lowest (marked_in m') (from 0 (length m')) ≡ lowest f (cells_of j)
  of-all = marked-lowest ∙ ap (λ x. lowest f (from 0 x)) (sym many)

  skipped : lowest f (cells_of j) ≡ 0
      → first_broken rule (f ∷ left) (cells_of j) ≡ first_broken (suc rule) left (cells_of j)
  unfolding first_broken
  skipped = go (lowest f (cells_of j))
    where
      go : (c : ℕ) → c ≡ 0
          → elim c [ zero ↦ first_broken (suc rule) left (cells_of j) | suc k ↦ record { rule = rule; cell = suc k } ]
          ≡ first_broken (suc rule) left (cells_of j)
      go zero q = refl
      go (suc k) q = absurd (omega arith)

  pub held_next : lowest (marked_in m') (from 0 (length m')) ≡ 0 → Held j P (suc rule) left m'
  held_next z = record {
    count = many;
    unmarked = unmarked_still h.unmarked a
        (λ k l. lowest-zero f 0 (length m') (sym marked-lowest ∙ z) k (omega arith) (omega arith));
    decided = h.decided ∙ skipped (sym of-all ∙ z);
  }

  -- it is the rule of that number
  module _ (number : (k : ℕ) → f k ≡ rule_of j P rule k) (low : 0 < rule) where
    told : 0 < lowest f (cells_of j)
        → ((verdict j P).rule ≡ rule) × ((verdict j P).cell ≡ lowest f (cells_of j))
    unfolding first_broken
    told p = go (lowest f (cells_of j)) p (verdict j P) h.decided
      where
        go : (c : ℕ) → 0 < c → (v : definition.Verdict)
            → v ≡ elim c [ zero ↦ first_broken (suc rule) left (cells_of j) | suc k ↦ record { rule = rule; cell = suc k } ]
            → (v.rule ≡ rule) × (v.cell ≡ c)
        go zero p v d = absurd (omega arith)
        go (suc k) p v d = (ap (λ v. v.rule) d, ap (λ v. v.cell) d)

    pub broken : {b : Breach} {r : Result (Unit {0}) Breach} → r ≡ Err b → LowestTold rule m' (Err b)
        → VerdictMarked j P (result_err r) m'
    broken {b} q e = rw q (record {
      judged = let t = told (omega (arith, of-all, e.1, e.2)) in
          record { rule = e.0 ∙ sym t.0; cell = e.1 ∙ of-all ∙ sym t.1; broken = omega (arith, e.0) };
      marked = λ k l. marked-is h.unmarked a k l ∙ number k ∙ ap (λ x. rule_of j P x k) (sym e.0);
    })

-- past the last rule
pub all_held : {j : paper.Job} {P : text.Placement} {rule : ℕ} {m : List Bool} → Held j P rule [] m
    → VerdictMarked j P None m
unfolding first_broken
all_held h = record {
  judged = record {
    rule = sym (ap (λ v. v.rule) h.decided);
    cell = sym (ap (λ v. v.cell) h.decided);
    broken = tt;
  };
  marked = h.unmarked.none;
}

pub last_told : {j : paper.Job} {P : text.Placement} {rule : ℕ} {f : ℕ → Bool} {m m' : List Bool} → Held j P rule (f ∷ []) m
    → Added f m m' → ((k : ℕ) → f k ≡ rule_of j P rule k) → 0 < rule → (r : Result (Unit {0}) Breach)
    → LowestTold rule m' r → VerdictMarked j P (result_err r) m'
last_told h a g l (Ok _) e = all_held (held_next h a e)
last_told h a g l (Err b) e = broken h a g l refl e
