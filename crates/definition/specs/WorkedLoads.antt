-- Worked loads: first draws, the range of a row, and the numbers that refuse; whole texts are among the edges. The
-- draws were worked out from document 02 by a program apart from these definitions; here they are computed, so that a
-- definition that is wrong in a shift or a sum is refused in this crate.
use Rattle.std.specs.Prelude.{ℕ, ◌≡◌, refl, true, false, [], ◌∷◌, replicate}
use Rattle.definition.specs.Lists.{all, any}
use Rattle.definition.specs.Job.{Cell}
use Rattle.definition.specs.Demands.{is_one_of, is_refusal, shapes, refusal_numbers}
use Rattle.definition.specs.Draws.{◌to◌, seeded, next, yields}
use Rattle.definition.specs.Load.{row_range}

-- ---- the first eight draws

pub first-of_1 : yields 8 (seeded 1)
    ≡ 632806 ∷ 68359563 ∷ 2648522772 ∷ 309049443 ∷ 2400501418 ∷ 747670126 ∷ 634972541 ∷ 438655706 ∷ []
unfolding seeded next yields
first-of_1 = refl

-- "0 is taken as 1"
pub first-of_0 : yields 8 (seeded 0) ≡ yields 8 (seeded 1)
unfolding seeded
first-of_0 = refl

pub first-of_2463534242 : yields 8 (seeded 2463534242)
    ≡ 723834152 ∷ 2498091780 ∷ 2065232111 ∷ 2009494930 ∷ 3534116794 ∷ 376288904 ∷ 1353173333 ∷ 694048357 ∷ []
unfolding seeded next yields
first-of_2463534242 = refl

pub first-of_4294967295 : yields 8 (seeded 4294967295)
    ≡ 616420 ∷ 4229107081 ∷ 1959538578 ∷ 4058163182 ∷ 2051315050 ∷ 2563145610 ∷ 1707652627 ∷ 282705955 ∷ []
unfolding seeded next yields
first-of_4294967295 = refl

-- ---- the range of a row

-- "0 to 1 once 24 are tall"
abbrev tall : Cell
tall = record { fixed = false; row = 2; given = 0; mirrorable = false; layouts = [] }

pub row_ranges : (row_range (replicate 23 tall) ≡ 0 to 2) × (row_range (replicate 24 tall) ≡ 0 to 1)
row_ranges = (refl, refl)

-- ---- the numbers that refuse

-- every number that an operation refuses by is listed, and each that is listed is some operation's
pub numbers-listed : (n : ℕ)
    → (all (λ shape. all (is_one_of refusal_numbers) shape.refusals) (shapes n) ≡ true)
    × (all (λ number. any (λ shape. is_refusal shape number) (shapes n)) refusal_numbers ≡ true)
numbers-listed n = (refl, refl)
