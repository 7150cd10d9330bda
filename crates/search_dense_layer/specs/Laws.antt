-- Laws of the buckets: what one source and one more of each loop make of them.
use Rattle.std.specs.Prelude.{ℕ, ◌+◌, ◌*◌, ◌/◌, ◌%◌, ◌≤◌, ◌<◌, min, ◌≡◌, refl, Bool, List, get_or, eqb}
use Rattle.std.proofs.Common.{ap, ◌∙◌}
use Rattle.std.proofs.Math.Logic.{◌≢◌}
use Rattle.std.proofs.Math.Bool.{true, false, cond}
use native.Mathlib.Omega.{arith}
use Rattle.lists.specs.Compare.{Eq?, same, differs, eq?}
use Rattle.theory_tables.specs.Steps.{B}
use Rattle.search_store.specs.Map.{bucket_rows}
use Rattle.search_lanes.specs.Lanes.{Lowered}
use Rattle.search_lanes.specs.Store.{Low}
use Rattle.search_lanes.specs.Laws.{lowered_to, lowered_ext, lowered_join, lowered_low}
use Rattle.search_row.specs.Words.{word_of, filled_word, touching_word}
use Rattle.search_buckets.specs.Rows.{in_row, end_row_of, buckets_in, pay_in, Pays, one_pose, pay_words}
use Rattle.search_buckets.specs.Laws.{pay-none}
use Rattle.search_buckets.specs.Sources.{pose-pays}
use Rattle.search_dense_layer.specs.declared.Buckets.{Buckets}
use Rattle.search_dense_layer.specs.Thin.{ThinArrays, ThinGathered, four_of, spread_of, variant_words}

-- ---- the buckets

-- the buckets that are needed
pub apart_yes : (z : Bool) {n : ℕ} (x : ℕ) → Eq? n 9 z → n ≡ 9 → cond z x B ≡ x
apart_yes true x (same e) h = refl
apart_yes false x (differs d) h = absurd (d h)

apart-no : (z : Bool) {n : ℕ} (x : ℕ) → Eq? n 9 z → n ≢ 9 → cond z x B ≡ B
apart-no true x (same e) h = absurd (h e)
apart-no false x (differs d) h = refl

apart-same : (z : Bool) {n x y : ℕ} → Eq? n 9 z → (n ≡ 9 → x ≡ y) → cond z x B ≡ cond z y B
apart-same true (same e) h = h e
apart-same false (differs d) h = refl

apart-min : (z : Bool) (x y : ℕ) {s : ℕ} → s ≡ min x y → cond z s B ≡ min (cond z x B) (cond z y B)
apart-min true x y h = h
apart-min false x y h = omega arith

module _ {needed : ℕ} {old new : Buckets} where
  -- what was lent stays so
  pub lent-on : {bucket : ℕ → ℕ → ℕ} → ThinArrays old → ThinGathered bucket needed old new → ThinArrays new
  lent-on l g =
      record {
        near_long = g.near_to.long ∙ l.near_long;
        apart_long = g.apart_to.long ∙ l.apart_long;
        far_long = g.far_to.long ∙ l.far_long;
        near_low = lowered_low g.near_to l.near_low;
        apart_low = lowered_low g.apart_to l.apart_low;
        far_low = lowered_low g.far_to l.far_low;
      }

  -- the same by another name
  pub gathered_ext :
      {P Q : ℕ → ℕ → ℕ}
      → ThinGathered P needed old new → 5 ≤ needed → ((v t : ℕ) → v < needed → Q v t ≡ P v t)
      → ThinGathered Q needed old new
  gathered_ext g h e =
      record {
        near_to = lowered_ext g.near_to (λ k p. e (1 + k % 4) (k / 4) (omega arith));
        apart_to = lowered_ext g.apart_to
            (λ k p. apart-same (eqb needed 9) (eq? needed 9) (λ n. e (5 + k % 4) (k / 4) (omega arith)));
        far_to = lowered_ext g.far_to (λ k p. e 0 k (omega arith));
      }

-- one source, in its row of all buckets that are needed
module _ (t x u : ℕ) (pays : List ℕ) where
  four : (n o : ℕ) (k : ℕ) → o ≡ u * 9 + n → spread_of t x pays u (n + k % 4) (k / 4) ≡ four_of t x pays o k
  four n o k e = ap (λ (i : ℕ). in_row t (k / 4) (x + get_or pays i 0)) (omega arith)

  one : (s : ℕ) → get_or pays (u * 9) 0 ≡ 0 → spread_of t x pays u 0 s ≡ in_row t s x
  one s free =
      let y : u * 9 + 0 ≡ u * 9 = omega arith in
      let z : x + get_or pays (u * 9 + 0) 0 ≡ x = rw y (omega arith) in
      ap (in_row t s) z

  module _ {needed : ℕ} {old new : Buckets} (free : get_or pays (u * 9) 0 ≡ 0) where
    pub spread-nine :
        Lowered (four_of t x pays (u * 9 + 1)) variant_words old.near new.near
        → Lowered (λ s. in_row t s x) bucket_rows old.far new.far
        → needed ≡ 9 → Lowered (four_of t x pays (u * 9 + 5)) variant_words old.apart new.apart
        → ThinGathered (spread_of t x pays u) needed old new
    spread-nine v f n w =
        record {
          near_to = lowered_ext v (λ k p. four 1 (u * 9 + 1) k refl);
          apart_to = lowered_ext w (λ k p. apart_yes (eqb needed 9)
              (spread_of t x pays u (5 + k % 4) (k / 4)) (eq? needed 9) n ∙ four 5 (u * 9 + 5) k refl);
          far_to = lowered_ext f (λ k p. one k free);
        }

    pub spread-five :
        Lowered (four_of t x pays (u * 9 + 1)) variant_words old.near new.near
        → Lowered (λ s. in_row t s x) bucket_rows old.far new.far
        → needed ≢ 9 → Low old.apart → new.apart ≡ old.apart
        → ThinGathered (spread_of t x pays u) needed old new
    spread-five v f n w e =
        record {
          near_to = lowered_ext v (λ k p. four 1 (u * 9 + 1) k refl);
          apart_to = rw e (lowered_to variant_words w (λ k p.
              omega (arith, apart-no (eqb needed 9) (spread_of t x pays u (5 + k % 4) (k / 4)) (eq? needed 9) n)));
          far_to = lowered_ext f (λ k p. one k free);
        }

-- no source, or none that lowers anything
pub gathered_none :
    {bucket : ℕ → ℕ → ℕ} (needed : ℕ) {b : Buckets}
    → ThinArrays b → ((v t : ℕ) → t < bucket_rows → B ≤ bucket v t)
    → ThinGathered bucket needed b b
gathered_none {bucket} needed l h =
    record {
      near_to = lowered_to variant_words l.near_low (λ k p. h (1 + k % 4) (k / 4) (omega arith));
      apart_to = lowered_to variant_words l.apart_low (λ k p. go (eqb needed 9) k p);
      far_to = lowered_to bucket_rows l.far_low (λ k p. h 0 k p);
    }
  where
    go : (z : Bool) (k : ℕ) → k < variant_words → B ≤ cond z (bucket (5 + k % 4) (k / 4)) B
    go true k p = h (5 + k % 4) (k / 4) (omega arith)
    go false k p = omega arith

-- one after the other
pub gathered-join :
    {P Q S : ℕ → ℕ → ℕ} {needed : ℕ} {old mid new : Buckets}
    → ThinGathered P needed old mid → ThinGathered Q needed mid new → ((v t : ℕ) → S v t ≡ min (P v t) (Q v t))
    → ThinGathered S needed old new
gathered-join {P} {Q} {needed} p q e =
    record {
      near_to = lowered_join p.near_to q.near_to (λ k h. e (1 + k % 4) (k / 4));
      apart_to = lowered_join p.apart_to q.apart_to
          (λ k h. apart-min (eqb needed 9) (P (5 + k % 4) (k / 4)) (Q (5 + k % 4) (k / 4)) (e (5 + k % 4) (k / 4)));
      far_to = lowered_join p.far_to q.far_to (λ k h. e 0 k);
    }

-- ---- how many buckets

module _ (row : List ℕ) (m : ℕ) where
  pub buckets_few : (5 ≤ buckets_in row m) × (buckets_in row m ≤ 9)
  unfolding buckets_in
  buckets_few = go (eqb (word_of row m touching_word) (word_of row m filled_word))
    where
      go : (z : Bool) → (5 ≤ cond z 5 9) × (cond z 5 9 ≤ 9)
      go true = (omega arith, omega arith)
      go false = (omega arith, omega arith)

  -- fewer than 9 only where one weight serves for all gaps
  pub buckets_twin : buckets_in row m ≢ 9 → word_of row m touching_word ≡ word_of row m filled_word
  unfolding buckets_in
  buckets_twin n = go (eqb (word_of row m touching_word) (word_of row m filled_word))
      (eq? (word_of row m touching_word) (word_of row m filled_word)) n
    where
      go : (z : Bool) → Eq? (word_of row m touching_word) (word_of row m filled_word) z → ◌≢◌ {A = ℕ} (cond z 5 9) 9
          → word_of row m touching_word ≡ word_of row m filled_word
      go true (same e) d = e
      go false (differs f) d = absurd (d refl)

-- ---- one source

-- it pays nothing in bucket 0
pub pays-free : {row pays : List ℕ} {k m buckets : ℕ} (u : ℕ) → Pays row k m buckets pay_words pays → 5 ≤ buckets → u < 4
    → get_or pays (u * 9) 0 ≡ 0
pays-free {row} {pays} {k} {m} u p h g =
    let e : u * 9 % 9 ≡ 0 = omega arith in
    p.pay (u * 9) (omega arith) (omega arith) ∙ ap (pay_by (u * 9 / 9)) e ∙ pay-none row k (u * 9 / 9) m
  where
    pay_by : ℕ → ℕ → ℕ
    pay_by b v = pay_in row k b m v

-- a pose of a source, from its words
pub gathered-pose :
    {row pays : List ℕ} {old new : Buckets} {k m needed : ℕ} (b t x : ℕ)
    → Pays row k m needed pay_words pays → t ≡ end_row_of row k b m → 5 ≤ needed → needed ≤ 9
    → ThinGathered (spread_of t x pays (b % 4)) needed old new
    → ThinGathered (one_pose row k m b x) needed old new
gathered-pose b t x p e h g w = gathered_ext w h (λ v s l. pose-pays b v s x p e l g)
