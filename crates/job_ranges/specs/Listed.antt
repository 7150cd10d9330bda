-- A list spelled out by its entries.
use Rattle.std.specs.Prelude.{ℕ, zero, suc, ◌+◌, ◌<◌, ◌≤◌, ◌≡◌, refl, List, [], ◌∷◌, length, get_or, take, drop}
use Rattle.std.proofs.Common.{ap, ◌∙◌, arith, drop_of_length-le, drop-cons}

-- entries i, i + 1 and so on, k of them
abbrev pub spelled : ℕ → ℕ → List ℕ → List ℕ
spelled i zero l = []
spelled i (suc k) l = get_or l i 0 ∷ spelled (suc i) k l

pub spell_part : (i k : ℕ) (l : List ℕ) → i + k ≤ length l → take k (drop i l) ≡ spelled i k l
spell_part i zero l h = refl
spell_part i (suc k) l h =
    rw (drop-cons l i 0 (omega arith)) (ap (λ (m : List ℕ). get_or l i 0 ∷ m) (spell_part (suc i) k l (omega arith)))

pub spell : (i k : ℕ) (l : List ℕ) → length l ≡ i + k → drop i l ≡ spelled i k l
spell i zero l e = drop_of_length-le l {i = i} (omega arith)
spell i (suc k) l e =
    drop-cons l i 0 (omega arith) ∙ ap (λ (m : List ℕ). get_or l i 0 ∷ m) (spell (suc i) k l (omega arith))

spelled_same : (i k : ℕ) (l m : List ℕ) → ((j : ℕ) → j < i + k → get_or l j 0 ≡ get_or m j 0)
    → spelled i k l ≡ spelled i k m
spelled_same i zero l m e = refl
spelled_same i (suc k) l m e = rw (e i (omega arith), spelled_same (suc i) k l m (λ j h. e j (omega arith)))

-- a list that another begins with
pub spell_as : (k : ℕ) (l m : List ℕ) → length l ≡ k
    → ((j : ℕ) → j < k → get_or l j 0 ≡ get_or m j 0) → l ≡ spelled 0 k m
spell_as k l m e f = spell 0 k l (omega arith) ∙ spelled_same 0 k l m (λ j h. f j (omega arith))
