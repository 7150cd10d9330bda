-- The fields of a result as a list, one pushed after another.
use Rattle.std.specs.Prelude.{ℕ, zero, suc, ◌+◌, ◌≤◌, ◌≡◌, refl, List, ◌∷◌, ◌++◌, length, take, replicate, ℤ, pos}
use Rattle.std.proofs.Common.{ap, ◌∙◌, append_assoc, arith, length-append}
use Rattle.results.specs.declared.Fields.{Fields}

abbrev pub max_fields : ℕ
max_fields = 16

unfoldable pub list_of : Fields → List ℤ
list_of f = take f.count f.values

-- the fields are this list, of n
pub record FieldsOf (l : List ℤ) (n : ℕ) (f : Fields) : Type 0 where
  pub list : list_of f ≡ l
  pub count : f.count ≡ n

-- the fields are this list
pub record Listed (l : List ℤ) (f : Fields) : Type 0 where
  pub list : list_of f ≡ l
  pub few : f.count ≤ max_fields

-- the same fields and more at their end
pub record More (f : Fields) (more : List ℤ) (r : Fields) : Type 0 where
  pub list : list_of r ≡ list_of f ++ more
  pub count : r.count ≡ f.count + length more

pub more-then : {f g h : Fields} {a b : List ℤ} → More f a g → More g b h → More f (a ++ b) h
more-then {f} {a = a} {b = b} p q = record {
  list = q.list ∙ ap (λ (l : List ℤ). l ++ b) p.list ∙ append_assoc (list_of f) a b;
  count = omega (arith, p.count, q.count, length-append a b);
}

pub zeros_listed : (n m : ℕ) → n ≤ m → take n (replicate m (pos 0)) ≡ replicate n (pos 0)
zeros_listed zero m h = refl
zeros_listed (suc n) zero h = absurd (omega arith)
zeros_listed (suc n) (suc m) h = ap (λ (l : List ℤ). pos 0 ∷ l) (zeros_listed n m (omega arith))
