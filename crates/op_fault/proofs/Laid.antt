-- Entries laid over others, one more at a time, and as many of them as fit.
use Prim.Native.Nat.{ℕ, zero, suc, ◌+◌, ◌<◌, min}
use mathlib.Core.Path.{◌≡◌, ap, ◌∙◌}
use mathlib.Core.List.{List, [], ◌∷◌}
use native.Mathlib.Omega.{arith}
use lib.ListN.{length, take, set, get_or}
use Rattle.definition.specs.Outcome.{over}
use Rattle.definition_laws.specs.Over.{over-more}

pub laid : {A : Type 0} (xs l : List A) (n : ℕ) → n ≡ min (length xs) (length l) → over (take n xs) l ≡ over xs l
unfolding over
laid [] l n e = let z : n ≡ 0 = omega arith in rw z
laid (x ∷ xs) [] n e = let z : n ≡ 0 = omega arith in rw z
laid (x ∷ xs) (y ∷ l) zero e = absurd (omega arith)
laid (x ∷ xs) (y ∷ l) (suc n) e = ap (λ t. x ∷ t) (laid xs l n (omega arith))

pub laid-more : {A : Type 0} (xs l : List A) {t : List A} {i : ℕ} {x : A} → t ≡ over (take i xs) l → x ≡ get_or xs i x → i < length xs → i < length l
    → set t i x ≡ over (take (i + 1) xs) l
laid-more {A} xs l {t} {i} {x} e r h k =
    ap (λ (u : List A). set u i x) e ∙ ap (λ (y : A). set (over (take i xs) l) i y) r ∙ over-more xs l i x h k
