-- A job text led by `K` whose weights of steps are equal is read as the text led by `J` with its other numbers (A7):
-- the same job, or the same refusal.
use Rattle.std.specs.Prelude.{ℕ, ◌≡◌, refl, Bool, true, ◌&&◌}
use Rattle.std.proofs.Math.Path.{sym, ap, ap₂}
use Rattle.std.proofs.Common.{◌∙◌, arith}
use mathlib.Core.List.{List, [], ◌∷◌, ◌++◌, map, append_assoc}
use Rattle.definition.specs.Lists.{all}
use Rattle.definition.specs.Texts.{Text, line_feed, onto, lines_of, fields_of, ended, is_number, digits}
use Rattle.definition.specs.Job.{Header, Reading, header_lead, filled_lead, numbers_of, first_failing, header_in_range}
use Rattle.definition.specs.Job.{header_refusal, header_of, line_header, read_cells, read_lines, read_job}
use Rattle.definition.specs.Load.{listed}
use Rattle.definition_laws.specs.Weights.{said-twice, equal_range, equal-header}
use Rattle.job_laws.specs.Tests.{choose, read-header-line}
use Rattle.text_laws.specs.Lines.{first-line, ended-line}
use Rattle.load_laws.specs.Lines.{listed-fields, listed-unbroken, values}

-- a header line: its lead, and its numbers, each after a comma
abbrev pub header_line : ℕ → List ℕ → Text
header_line lead ns = lead ∷ (listed ns ++ (line_feed ∷ []))

by_J : (ns : List ℕ) → fields_of (header_line header_lead ns) ≡ (header_lead ∷ []) ∷ map digits ns
unfolding fields_of
by_J ns = ap (onto header_lead) (listed-fields ns)

by-K : (ns : List ℕ) → fields_of (header_line filled_lead ns) ≡ (filled_lead ∷ []) ∷ map digits ns
unfolding fields_of
by-K ns = ap (onto filled_lead) (listed-fields ns)

module _ (a b c d e f g h : ℕ) where
  abbrev eight : List ℕ
  eight = a ∷ b ∷ c ∷ d ∷ e ∷ f ∷ g ∷ h ∷ []

  abbrev nine : List ℕ
  nine = a ∷ b ∷ c ∷ d ∷ e ∷ f ∷ g ∷ h ∷ e ∷ []

  abbrev line_j : Text
  line_j = header_line header_lead eight

  abbrev line_k : Text
  line_k = header_line filled_lead nine

  formed-same : all is_number (map digits nine) ≡ all is_number (map digits eight)
  formed-same =
      ap (λ t. n a && (n b && (n c && (n d && t)))) (said-twice is_number (digits e) (digits f) (digits g) (digits h))
    where
      n : ℕ → Bool
      n x = is_number (digits x)

  -- the two tests of the lines
  refusal_J : header_refusal line_j
      ≡ first_failing ((1, all is_number (map digits eight) && true) ∷ (2, header_in_range eight) ∷ [])
  unfolding header_refusal
  refusal_J = rw (by_J eight, ended-line (header_lead ∷ listed eight), values eight)

  refusal-K : header_refusal line_k
      ≡ first_failing ((1, all is_number (map digits nine) && true) ∷ (2, header_in_range nine) ∷ [])
  unfolding header_refusal
  refusal-K = rw (by-K nine, ended-line (filled_lead ∷ listed nine), values nine)

  refusal-same : header_refusal line_k ≡ header_refusal line_j
  refusal-same =
      refusal-K
      ∙ ap₂ (λ s t. first_failing ((1, s && true) ∷ (2, t) ∷ [])) formed-same (equal_range a b c d e f g h)
      ∙ sym refusal_J

  header-same : line_header line_k ≡ line_header line_j
  header-same =
      rw (by-K nine, by_J eight) (ap₂ header_of refl (values nine) ∙ equal-header a b c d e f g h
      ∙ sym (ap₂ header_of refl (values eight)))

  -- whatever follows
  pub equal-weights : (rest : Text) → read_job (line_k ++ rest) ≡ read_job (line_j ++ rest)
  unfolding read_job
  equal-weights rest =
      ap read_lines (lines filled_lead nine (λ z. omega arith)) ∙ read-header-line line_k (lines_of rest)
      ∙ ap₂ (λ n x. choose n 1 (read_cells (record { header = x; cells = [] }) 2 (lines_of rest))) refusal-same
      header-same
      ∙ sym (ap read_lines (lines header_lead eight (λ z. omega arith)) ∙ read-header-line line_j (lines_of rest))
    where
      lines : (lead : ℕ) (ns : List ℕ) → (lead ≡ line_feed → ⊥)
          → lines_of (header_line lead ns ++ rest) ≡ header_line lead ns ∷ lines_of rest
      lines lead ns u =
          ap lines_of (append_assoc (lead ∷ listed ns) (line_feed ∷ []) rest)
          ∙ first-line (lead ∷ listed ns) rest (u, listed-unbroken ns)
