-- Tolls and charges are small, and a state that is there stands in the row.
use Rattle.std.specs.Prelude.{ℕ, suc, ◌+◌, ◌*◌, ◌-◌, ◌≤◌, ◌<◌, ◌≡◌, refl, Bool, true, false, ◌&&◌, cond, List, leb, ltb, eqb}
use Rattle.std.proofs.Common.{arith, mul-le-mul, ltb-true, eq-eqb, ne_eqb}
use Rattle.definition.specs.Rules.{is_forbidden}
use Rattle.definition_laws.specs.Gaps.{charge-most}
use Rattle.theory_tables.specs.Steps.{B, offset, last_at, is_source}
use Rattle.search_row.specs.Words.{word_of, weight_in, differ_in, site_in, end_in, toll_in, front_in}
use Rattle.search_row.specs.Words.{back_in, end_toll, deck_of, there_in, RowWords, filled_word, touching_word}
use Rattle.search_row.specs.Words.{front_barred, back_barred}
use Rattle.search_row.specs.Words.{variant, left_p, left_n, right_p, right_n}

cond-low : (t : Bool) {x y z : ℕ} → x ≤ z → y ≤ z → cond t x y ≤ z
cond-low true p q = p
cond-low false p q = q

pub differ-low : (row : List ℕ) (k b m a : ℕ) → differ_in row k b m a ≤ 2
differ-low row k b m a =
    omega (
      arith,
      cond-low (eqb (word_of row k (right_p + variant b)) (word_of row m (left_p + variant a))) {x = 0} {y = 1} {z = 1}
          (omega arith)
          (omega arith),
      cond-low (eqb (word_of row k (right_n + variant b)) (word_of row m (left_n + variant a))) {x = 0} {y = 1} {z = 1}
          (omega arith)
          (omega arith),
    )

-- a weight times a count of heights, and a charge times that
pub pay-low : {w d : ℕ} → w ≤ 131072 → d ≤ 2 → w * d ≤ 262144
pay-low p q = mul-le-mul p q

pub charged-low : {c x : ℕ} → c ≤ 1 → x ≤ 262144 → c * x ≤ 262144
charged-low p q = mul-le-mul p q

pub weight-low : {row : List ℕ} (m gap : ℕ) → RowWords row → weight_in row m gap ≤ 131072
weight-low {row} m gap w =
    cond-low (eqb gap 0) {x = word_of row m touching_word} {y = word_of row m filled_word} (w.weight m) (w.filled m)

pub toll-low : {row : List ℕ} (k b m a : ℕ) → RowWords row → toll_in row k b m a ≤ B
unfolding toll_in
toll-low {row} k b m a w =
    let x = site_in row m a in
    let y = end_in row k b in
    let p = charged-low (charge-most (x - y)) (pay-low (weight-low m (x - y) w) (differ-low row k b m a)) in
    cond-low (ltb x y) (omega arith) (cond-low (is_forbidden (x - y)) (omega arith) (omega arith))

-- what the ends of a row pay: B where it is barred, else nothing
end_low : (at barred : ℕ) → end_toll at barred ≤ B
end_low at barred = cond-low (eqb at barred) (omega arith) (omega arith)

pub end-barred : (at barred : ℕ) → at ≡ barred → B ≡ end_toll at barred
end-barred at barred e = rw (eq-eqb at barred e)

pub end-free : (at barred : ℕ) → (at ≡ barred → ⊥) → 0 ≡ end_toll at barred
end-free at barred d = rw (ne_eqb at barred d)

end-either : (at barred : ℕ) → end_toll at barred ≡ cond (eqb (end_toll at barred) 0) 0 B
end-either at barred = go (eqb at barred)
  where
    go : (t : Bool) → ◌≡◌ {A = ℕ} (cond t B 0) (cond (eqb (cond t B 0) 0) 0 B)
    go true = refl
    go false = refl

module _ (row : List ℕ) (k a : ℕ) where
  pub front_low : front_in row k a ≤ B
  unfolding front_in
  front_low = end_low (site_in row k a) (word_of row k front_barred)

  pub front-either : front_in row k a ≡ cond (eqb (front_in row k a) 0) 0 B
  unfolding front_in
  front-either = end-either (site_in row k a) (word_of row k front_barred)

  pub back_low : back_in row k a ≤ B
  unfolding back_in
  back_low = end_low (end_in row k a) (word_of row k back_barred)

  pub back_either : back_in row k a ≡ cond (eqb (back_in row k a) 0) 0 B
  unfolding back_in
  back_either = end-either (end_in row k a) (word_of row k back_barred)

-- a test of two parts, whose first part fails or holds
pub and-away : (s t : Bool) → s ≡ false → false ≡ (s && t)
and-away false t e = refl
and-away true t e = absurd (let z : ◌≡◌ {A = ℕ} 0 1 = cc in omega arith)

pub and-there : (s t : Bool) → s ≡ true → t ≡ (s && t)
and-there true t e = refl
and-there false t e = absurd (let z : ◌≡◌ {A = ℕ} 0 1 = cc in omega arith)

both : (s t : Bool) → (s && t) ≡ true → (s ≡ true) × (t ≡ true)
both true t h = (refl, h)
both false t h = absurd (let z : ◌≡◌ {A = ℕ} 0 1 = cc in omega arith)

pub there-size : (n R i q : ℕ) → there_in n R i q ≡ true → last_at R i q < n
there-size n R i q e = ltb-true _ _ (both (leb (suc R) (i + offset R q)) _ e).1

pub source-size : (row : List ℕ) (n poses R i q p : ℕ) → is_source (deck_of row n poses) R i q p ≡ true
    → last_at R i p < n
source-size row n poses R i q p e = there-size n R i p (both (there_in n R i p) _ e).0
