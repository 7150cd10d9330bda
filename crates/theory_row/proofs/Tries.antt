-- The definitions, run.
use Rattle.std.specs.Prelude.{◌≡◌, refl, ◌⊎◌, [], ◌∷◌, ℕ, ◌*◌, ◌-◌, ◌%◌, ◌<◌, get_or}
use Rattle.std.proofs.Common.{ap, inl, inr, arith}
use Rattle.std.proofs.Math.Decide.{ℕ_discrete}
use Rattle.std.specs.Int.Count.{ones, ones_in}
use Rattle.lists.specs.Numbers.{from}
use Rattle.theory_row.specs.Order.{order, sort, put, place}
use Rattle.theory_row.specs.Rules.{breaks5, breaks6, any_next, lowest}
use Rattle.theory_row.specs.Window.{start, step, walk, Good}
use Rattle.theory_row.specs.History.{marks, mark, has, digits}

sites : ℕ → ℕ
sites k = get_or (1 ∷ 0 ∷ []) k 0

ones' : ℕ → ℕ
ones' k = 1

swapped : order sites 2 ≡ 1 ∷ 0 ∷ []
unfolding sites from order sort put
swapped = refl

legal_1 : lowest (breaks6 1 sites 2) (from 0 2) ≡ 0
unfolding sites from order sort put place breaks6 lowest
legal_1 = refl

broken_0 : lowest (breaks6 0 sites 2) (from 0 2) ≡ 1
unfolding sites from order sort put place breaks6 lowest
broken_0 = refl

gap_1 : lowest (breaks5 (λ k. 3 * k) (λ k. 2) 2) (from 0 2) ≡ 1
unfolding from order sort put any_next breaks5 lowest
gap_1 = refl

after_2 : marks 1 (1 ∷ 0 ∷ []) ≡ 3
unfolding marks mark has digits
after_2 = refl

after_1 : marks 1 (1 ∷ []) ≡ 5
unfolding marks mark has digits
after_1 = refl

walk_1 : walk 1 0 (start 1) (1 ∷ []) ≡ 5
unfolding start step
walk_1 = refl

big : place 63 (order (λ k. 63 - k) 64) ≡ 0
unfolding from order sort put place
big = refl

-- with R 1 the marks are 011 or 101
ones_1 : ones 1 ≡ 1
unfolding ones ones_in
ones_1 = refl

ones_7 : ones 7 ≡ 3
unfolding ones ones_in
ones_7 = refl

pub good-one : (m : ℕ) → Good 1 m → (m ≡ 3) ⊎ (m ≡ 5)
good-one m g = go (ℕ_discrete m 3) (ℕ_discrete m 5) (ℕ_discrete m 1)
  where
    o : m % 2 ≡ 1
    o = g.odd

    s : m < 8
    s = g.small

    c : ones m ≡ 2
    c = g.count

    go : Dec (m ≡ 3) → Dec (m ≡ 5) → Dec (m ≡ 1) → (m ≡ 3) ⊎ (m ≡ 5)
    go (yes e) q r = inl e
    go (no p) (yes e) r = inr e
    go (no p) (no q) (yes e) = absurd (omega (arith, c, ap ones e, ones_1))
    go (no p) (no q) (no r) = absurd (omega (arith, c, ap ones seven, ones_7))
      where
        seven : m ≡ 7
        seven = omega (arith, o, s)
