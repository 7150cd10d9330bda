-- The generator that a load's fields are drawn from. Document 02, A3.
use Rattle.std.specs.Prelude.{ℕ, zero, suc, ◌+◌, ◌*◌, ◌-◌, ◌/◌, ◌%◌, ◌^◌, cond, List, [], ◌∷◌, eqb}
use Rattle.std.specs.Int.Bits.{bit_xor}

-- "within 32 bits", "modulo 2^32"
abbrev pub within32 : ℕ → ℕ
within32 n = n % 2 ^ 32

-- "State s is the seed, w is 0."
pub record Generator : Type 0 where
  pub s : ℕ
  pub w : ℕ

-- "a 32-bit seed (0 is taken as 1)"
unfoldable pub seeded : ℕ → Generator
seeded seed = record { s = cond (eqb seed 0) 1 seed; w = 0 }

-- "s xor (s shifted left 13)", "s xor (s shifted right 17)"
abbrev pub xor_left : ℕ → ℕ → ℕ
xor_left by s = bit_xor s (within32 (s * 2 ^ by))

abbrev pub xor_right : ℕ → ℕ → ℕ
xor_right by s = bit_xor s (s / 2 ^ by)

-- "Each draw replaces s by s xor (s shifted left 13), then s xor (s shifted right 17), then s xor (s shifted left 5),
-- within 32 bits; adds 362,437 to w modulo 2^32": the generator as the draw leaves it
unfoldable pub next : Generator → Generator
next g = record { s = xor_left 5 (xor_right 17 (xor_left 13 g.s)); w = within32 (g.w + 362437) }

-- "and yields s + w modulo 2^32"
abbrev pub yield : Generator → ℕ
yield g = within32 (g.s + g.w)

-- a field's range, from its first number to its last
pub record Range : Type 0 where
  pub low : ℕ
  pub high : ℕ

infix 5 ◌to◌
abbrev pub ◌to◌ : ℕ → ℕ → Range
low to high = record { low = low; high = high }

-- "A field from a to b is a + draw mod (b − a + 1)": from what its draw leaves
unfoldable pub drawn : Range → Generator → ℕ
drawn r g = r.low + yield g % (r.high - r.low + 1)

-- the generator after n draws
abbrev pub draws : ℕ → Generator → Generator
draws zero g = g
draws (suc n) g = draws n (next g)

-- a field of each range in turn
unfoldable pub drawn_all : List Range → Generator → List ℕ
drawn_all [] g = []
drawn_all (r ∷ rs) g = drawn r (next g) ∷ drawn_all rs (next g)

-- what the first n draws yield
unfoldable pub yields : ℕ → Generator → List ℕ
yields zero g = []
yields (suc n) g = yield (next g) ∷ yields n (next g)
