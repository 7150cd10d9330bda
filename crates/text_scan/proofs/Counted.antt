-- The fields of a line as far as byte i: those done are numbers and counted, the first 24 are kept, and the rest of the line decides.
use Prim.Native.Nat.{ℕ, zero, suc, ◌+◌, ◌≤◌, ◌<◌}
use mathlib.Core.Path.{◌≡◌, refl, sym, ap, ◌∙◌}
use mathlib.Core.Logic.{◌⊎◌, inl, inr}
use mathlib.Core.Bool.{false}
use mathlib.Core.List.{List, [], ◌∷◌, ◌++◌, map}
use native.Mathlib.Omega.{arith}
use native.Mathlib.Decide.{ℕ_discrete}
use lib.ListN.{length, get_or, set, drop, replicate, length-append, length-set}
use lib.Seq.{append_snoc, get_or-set_same, get_or-set_other}
use Rattle.lists.specs.Zeros.{zeros_at}
use Rattle.definition.specs.Texts.{Text, line_feed, comma, fields_of, value}
use Rattle.definition.specs.Job.{nth}
use Rattle.text_scan.specs.Line.{first_line, after_line, readable, fields-first, after_on, after_feed}
use Rattle.text_scan.specs.Field.{number-form, fields-comma, fields_feed, readable-comma, readable_feed, after-digits}
use Rattle.text_scan.specs.Found.{NumberTo, NumbersTo}
use Rattle.text_scan.specs.declared.Number.{Number}
use Rattle.text_scan.specs.declared.End.TheVariants.{Comma, LineFeed}

pub record FieldsCounted (text : Text) (at : ℕ) (vs : List ℕ) (n i : ℕ) : Type 0 where
  pub done : List Text
  pub fields : fields_of (drop at text) ≡ done ++ fields_of (drop i text)
  pub good : readable (drop at text) ≡ readable (drop i text)
  pub rest : after_line (drop at text) ≡ after_line (drop i text)
  pub count : n ≡ length done
  pub long : length vs ≡ 24
  pub values : (k : ℕ) → k < 24 → get_or vs k 0 ≡ nth (map value done) k
  pub small : (k : ℕ) → get_or vs k 0 ≤ 9999
  pub below : n + at ≤ i
  pub within : i ≤ length text

pub counted_none : (text : Text) (at : ℕ) → at ≤ length text → FieldsCounted text at (replicate 24 0) 0 at
counted_none text at h = record {
  done = [];
  fields = refl;
  good = refl;
  rest = refl;
  count = refl;
  long = refl;
  values = λ k l. zeros_at 24 k;
  small = λ k. omega (arith, zeros_at 24 k);
  below = omega arith;
  within = h;
}

-- ---- one more value

-- a value is kept where there is room
abbrev pub Kept : List ℕ → ℕ → ℕ → List ℕ → Type 0
Kept vs n v vs' = ((n < 24) × (vs' ≡ set vs n v)) ⊎ ((24 ≤ n) × (vs' ≡ vs))

module _ (f : Text) where
  nth_last : (done : List Text) → nth (map value (done ++ f ∷ [])) (length done) ≡ value f
  nth_last [] = refl
  nth_last (g ∷ done) = nth_last done

  nth-other : (done : List Text) (k : ℕ) → (k ≡ length done → ⊥) → nth (map value (done ++ f ∷ [])) k ≡ nth (map value done) k
  nth-other [] zero n = absurd (n refl)
  nth-other [] (suc k) n = refl
  nth-other (g ∷ done) zero n = refl
  nth-other (g ∷ done) (suc k) n = nth-other done k (λ e. n (ap suc e))

module _ {text : Text} {at n i : ℕ} {vs : List ℕ} (s : FieldsCounted text at vs n i) where
  kept-long : (v : ℕ) (vs' : List ℕ) → Kept vs n v vs' → length vs' ≡ 24
  kept-long v vs' (inl k) = ap length k.1 ∙ simp length-set s.long
  kept-long v vs' (inr k) = ap length k.1 ∙ s.long

  kept_small : (v : ℕ) → v ≤ 9999 → (vs' : List ℕ) → Kept vs n v vs' → (k : ℕ) → get_or vs' k 0 ≤ 9999
  kept_small v h vs' (inl w) k = go (ℕ_discrete k n)
    where
      there : get_or vs' k 0 ≡ get_or (set vs n v) k 0
      there = ap (λ (l : List ℕ). get_or l k 0) w.1

      go : Dec (k ≡ n) → get_or vs' k 0 ≤ 9999
      go (yes q) = omega (arith, there, ap (λ (j : ℕ). get_or (set vs n v) j 0) q, get_or-set_same vs n v 0 (omega (arith, s.long, w.0)))
      go (no q) = omega (arith, there, get_or-set_other vs n k v 0 q, s.small k)
  kept_small v h vs' (inr w) k = omega (arith, ap (λ (l : List ℕ). get_or l k 0) w.1, s.small k)

  kept-values : (f : Text) (v : ℕ) → v ≡ value f → (vs' : List ℕ) → Kept vs n v vs'
      → (k : ℕ) → k < 24 → get_or vs' k 0 ≡ nth (map value (s.done ++ f ∷ [])) k
  kept-values f v e vs' (inl w) k l = go (ℕ_discrete k n)
    where
      go : Dec (k ≡ n) → get_or vs' k 0 ≡ nth (map value (s.done ++ f ∷ [])) k
      go (yes q) =
          ap (λ (l : List ℕ). get_or l k 0) w.1
          ∙ ap (λ (j : ℕ). get_or (set vs n v) j 0) q
          ∙ get_or-set_same vs n v 0 (omega (arith, s.long, w.0))
          ∙ e
          ∙ sym (nth_last f s.done)
          ∙ ap (λ (j : ℕ). nth (map value (s.done ++ f ∷ [])) j) (sym (q ∙ s.count))
      go (no q) =
          ap (λ (l : List ℕ). get_or l k 0) w.1
          ∙ get_or-set_other vs n k v 0 q
          ∙ s.values k l
          ∙ sym (nth-other f s.done k (λ z. q (z ∙ sym s.count)))
  kept-values f v e vs' (inr w) k l =
      ap (λ (l : List ℕ). get_or l k 0) w.1 ∙ s.values k l ∙ sym (nth-other f s.done k (λ q. let c = s.count in omega arith))

  -- ---- one more number

  module _ {r : Number} (t : NumberTo text i r) where
    -- what a comma after it leaves to read; what a line feed does
    pub counted-more : r.end ≡ Comma → (vs' : List ℕ) → Kept vs n r.value vs' → FieldsCounted text at vs' (n + 1) r.next
    counted-more e vs' k =
        let f = t.field in
        let d = (number-form f t.number).digits in
        let more = drop r.next text in
        let p : drop i text ≡ f ++ comma ∷ more = t.split ∙ rw e in
        record {
          done = s.done ++ f ∷ [];
          fields =
              s.fields ∙ ap (λ (l : Text). s.done ++ fields_of l) p ∙ ap (λ (l : List Text). s.done ++ l) (fields-comma f d more)
              ∙ sym (append_snoc s.done f (fields_of more));
          good = s.good ∙ ap readable p ∙ readable-comma f d more t.number;
          rest = s.rest ∙ ap after_line p ∙ after-digits (comma ∷ more) f d ∙ after_on comma more refl;
          count = omega (arith, s.count, length-append s.done (f ∷ []));
          long = kept-long r.value vs' k;
          values = kept-values f r.value t.value vs' k;
          small = kept_small r.value t.small vs' k;
          below = omega (arith, s.below, t.past);
          within = t.within;
        }

    pub counted-end : r.end ≡ LineFeed → (vs' : List ℕ) → Kept vs n r.value vs'
        → NumbersTo text at (record { count = n + 1; next = r.next; values = vs' })
    counted-end e vs' k =
        let f = t.field in
        let d = (number-form f t.number).digits in
        let more = drop r.next text in
        let p : drop i text ≡ f ++ line_feed ∷ more = t.split ∙ rw e in
        let q : fields_of (first_line (drop at text)) ≡ s.done ++ f ∷ [] =
        fields-first (drop at text) ∙ s.fields ∙ ap (λ (l : Text). s.done ++ fields_of l) p ∙ ap (λ (l : List Text). s.done ++ l) (fields_feed f d more) in
        record {
          ok = s.good ∙ ap readable p ∙ readable_feed f d more t.number;
          found = record {
            past = omega (arith, s.below, t.past);
            within = t.within;
            rest = s.rest ∙ ap after_line p ∙ after-digits (line_feed ∷ more) f d ∙ after_feed more;
            count = omega (arith, s.count, length-append s.done (f ∷ []), ap length q);
            values = λ j l. kept-values f r.value t.value vs' k j l ∙ ap (λ (l : List Text). nth (map value l) j) (sym q);
            small = kept_small r.value t.small vs' k;
          };
        }

  -- no number ends the line
  pub counted-bad : readable (drop i text) ≡ false → readable (drop at text) ≡ false
  counted-bad b = s.good ∙ b
