-- Tests that compare two numbers, split with what they say.
use Rattle.std.specs.Prelude.{◌≡◌, ◌≢◌, Bool, true, false, not, ℕ, ◌≤◌, ◌<◌, T, leb, ltb, eqb}
use Rattle.std.proofs.Common.{subst, leb→le, eqb→eq, le-ltb, lt-ltb}
use Rattle.std.proofs.Math.Dec.{nleb→lt, eqb_refl}

pub data Le? (a b : ℕ) : Bool → Type 0 where
  low : a ≤ b → Le? a b true
  high : b < a → Le? a b false

pub le? : (a b : ℕ) → Le? a b (leb a b)
le? a b = go (leb a b) (leb→le a b) (nleb→lt a b)
  where
    go : (t : Bool) → (T t → a ≤ b) → (T (not t) → b < a) → Le? a b t
    go true f g = low (f tt)
    go false f g = high (g tt)

pub data Eq? (a b : ℕ) : Bool → Type 0 where
  same : a ≡ b → Eq? a b true
  differs : a ≢ b → Eq? a b false

pub eq? : (a b : ℕ) → Eq? a b (eqb a b)
eq? a b = go (eqb a b) (eqb→eq a b) (λ e. subst (λ (x : ℕ). T (eqb a x)) e (eqb_refl a))
  where
    go : (t : Bool) → (T t → a ≡ b) → (a ≡ b → T t) → Eq? a b t
    go true f g = same (f tt)
    go false f g = differs g

-- above is not at most
pub above : (a b : ℕ) → ltb b a ≡ not (leb a b)
above a b = go (leb a b) (le? a b)
  where
    go : (t : Bool) → Le? a b t → ltb b a ≡ not t
    go true (low h) = le-ltb b a h
    go false (high h) = lt-ltb b a h
