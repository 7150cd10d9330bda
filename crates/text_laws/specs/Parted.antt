-- Laws of texts with another between each two of them: one text more at their end, and more texts are no shorter.
use Rattle.std.specs.Prelude.{◌≤◌, ◌≡◌, refl, cond, List, [], ◌∷◌, ◌++◌, length, eqb}
use Rattle.std.proofs.Common.{append_assoc, arith, length-append}
use Rattle.std.proofs.Math.Dec.{eqb-suc-zero}
use Rattle.definition.specs.Texts.{Text, parted}

-- a last text, after what parts it from those before it
pub parted-last : (by : Text) (ts : List Text) (t : Text)
    → parted by (ts ++ (t ∷ [])) ≡ parted by ts ++ (cond (eqb (length ts) 0) [] by ++ t)
parted-last by [] t = refl
parted-last by (u ∷ []) t = refl
parted-last by (u ∷ v ∷ ts) t =
    let more = parted-last by (v ∷ ts) t in
    rw more (simp (append_assoc, eqb-suc-zero))

-- where some texts fit, the first of them do
pub parted-within : (by : Text) (ts us : List Text) → length (parted by ts) ≤ length (parted by (ts ++ us))
parted-within by [] us = omega arith
parted-within by (t ∷ []) [] = omega arith
parted-within by (t ∷ []) (u ∷ us) = simp length-append (omega arith)
parted-within by (t ∷ v ∷ ts) us =
    let more = parted-within by (v ∷ ts) us in
    simp length-append (omega arith)
