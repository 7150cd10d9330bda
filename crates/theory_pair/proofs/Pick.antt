-- Theorems on the definitions of specs/Pick.
-- The entries of a list that pass a test; and the marks that have R + 1 ones, the lowest among them.
use Rattle.std.proofs.Math.Path.{◌≡◌, refl}
use Rattle.std.proofs.Common.{arith}
use Rattle.std.specs.Prelude.{◌↔◌, Bool, ◌&&◌, ℕ, suc, ◌+◌, ◌*◌, ◌%◌, ◌^◌, ◌<◌, eqb}
use mathlib.Core.List.{Memᴰ as In}
use Rattle.std.proofs.Math.Bool.{true, false}
use Rattle.std.specs.Int.Count.{ones}
use Rattle.lists.specs.Compare.{Eq?, same, differs, eq?}
use Rattle.lists.specs.Numbers.{from, in_from, from_in}
use Rattle.theory_row.specs.Window.{Good}
use Rattle.theory_pair.specs.Pick.{pick, pick_in, in_pick, good_marks}

-- ---- the marks

pub in_good_marks : (R m : ℕ) → In m (good_marks R) ↔ Good R m
unfolding good_marks
in_good_marks R m = (
  λ q. let r = pick_in test (from 0 (2 ^ suc (2 * R))) q in go (eqb (m % 2) 1) (eqb (ones m) (suc R)) (eq? (m % 2) 1)
      (eq? (ones m) (suc R)) (in_from 0 (2 ^ suc (2 * R)) r.0).1 r.1,
  λ g. back g,
)
  where
    test : ℕ → Bool
    test m = eqb (m % 2) 1 && eqb (ones m) (suc R)

    go : (t u : Bool) → Eq? (m % 2) 1 t → Eq? (ones m) (suc R) u → m < 0 + 2 ^ suc (2 * R) → (t && u) ≡ true → Good R m
    go true true (same a) (same b) h e = record { odd = a; count = b; small = omega arith }
    go true false a b h e = absurd (let z : ◌≡◌ {A = ℕ} 0 1 = cc in omega arith)
    go false u a b h e = absurd (let z : ◌≡◌ {A = ℕ} 0 1 = cc in omega arith)

    passes : (t u : Bool) → Eq? (m % 2) 1 t → Eq? (ones m) (suc R) u → Good R m → (t && u) ≡ true
    passes true true a b g = refl
    passes true false a (differs b) g = absurd (b g.count)
    passes false u (differs a) b g = absurd (a g.odd)

    back : Good R m → In m (pick test (from 0 (2 ^ suc (2 * R))))
    back g =
        let s = g.small in
        in_pick test (from 0 (2 ^ suc (2 * R))) (from_in m 0 (2 ^ suc (2 * R)) (omega arith) (omega arith))
        (passes (eqb (m % 2) 1) (eqb (ones m) (suc R)) (eq? (m % 2) 1) (eq? (ones m) (suc R)) g)
