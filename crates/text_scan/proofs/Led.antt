-- A line is led just if the lead and a comma stand in front; the numbers after them are the line's.
use Prim.Native.Nat.{ℕ, ◌+◌, ◌-◌, ◌≤◌, ◌<◌}
use mathlib.Core.Path.{◌≡◌, refl, sym, ap, ◌∙◌}
use mathlib.Core.Bool.{Bool, true, false, false≢true}
use mathlib.Core.List.{List, [], ◌∷◌, map}
use native.Mathlib.Omega.{arith}
use lib.Dec.{eqb}
use native.Mathlib.Decide.{ℕ_discrete}
use lib.ListN.{length, take, drop, length-drop}
use lib.Seq.{take-length}
use Rattle.std.specs.Prelude.{Option, Some, None}
use Rattle.std.proofs.lemmas.List.{drop-drop}
use Rattle.std.specs.List.{starts_with}
use Rattle.std.proofs.lemmas.Slice.Eq.{starts_is}
use Rattle.std.proofs.lemmas.Bool.Decides.{Decides-eqb}
use Rattle.definition.specs.Texts.{Text, comma, fields_of, value}
use Rattle.definition.specs.Job.{nth}
use Rattle.text_scan.specs.Line.{first_line, after_line, readable, fields-first}
use Rattle.text_scan.specs.Lead.{led, led-other, led-end, led-long, led_on, fields-led, after-led}
use Rattle.text_scan.specs.Found.{NumbersTo, NumbersFrom, LedTo, LedFrom}
use Rattle.text_scan.specs.declared.Numbers.{Numbers}

module _ (lead : ℕ) (high : comma < lead) where
  other : (s : Text) → 1 ≤ length s → ((r : Text) → s ≡ lead ∷ comma ∷ r → ⊥) → led lead s ≡ false
  other [] h n = absurd (omega arith)
  other (b ∷ s) h n = first (ℕ_discrete b lead)
    where
      second : (s : Text) → ((r : Text) → b ∷ s ≡ lead ∷ comma ∷ r → ⊥) → b ≡ lead → led lead (b ∷ s) ≡ false
      second [] n e = rw e (led-end lead high)
      second (c ∷ s) n e = go (ℕ_discrete c comma)
        where
          go : Dec (c ≡ comma) → led lead (b ∷ c ∷ s) ≡ false
          go (yes f) = absurd (n s (rw (e, f)))
          go (no f) = rw e (led-long lead high c s f)

      first : Dec (b ≡ lead) → led lead (b ∷ s) ≡ false
      first (yes e) = second s n e
      first (no e) = led-other lead b s e

  module _ (text : Text) (at : ℕ) where
    -- the test of the code
    abbrev pub begins : Bool
    begins = starts_with eqb (take (length text - at) (drop at text)) (lead ∷ comma ∷ [])

    -- what it decides
    decided : (r : Bool) → r ≡ begins
        → (r ≡ true → drop at text ≡ lead ∷ comma ∷ drop 2 (drop at text)) × ((rest : Text) → drop at text ≡ lead ∷ comma ∷ rest → r ≡ true)
    decided r e =
        let tail : take (length text - at) (drop at text) ≡ drop at text = rw (← length-drop at text) (take-length (drop at text)) in
        starts_is Decides-eqb (drop at text) (lead ∷ comma ∷ []) r (rw tail at e)

    pub not-led : at < length text → false ≡ begins → led lead (drop at text) ≡ false
    not-led h e = other (drop at text) (omega (arith, length-drop at text)) (λ r q. false≢true ((decided false e).1 r q))

    module _ (e : true ≡ begins) where
      abbrev numbers : Text
      numbers = drop (at + 2) text

      split : drop at text ≡ lead ∷ comma ∷ numbers
      split = (decided true e).0 refl ∙ ap (λ (l : Text). lead ∷ comma ∷ l) (drop-drop 2 at text)

      led-same : led lead (drop at text) ≡ readable numbers
      led-same = ap (led lead) split ∙ led_on lead high numbers

      numbers_led : (r : Numbers) → NumbersTo text (at + 2) r → LedTo lead text at r
      numbers_led r n =
          let f = n.found in
          let q : drop 1 (fields_of (first_line (drop at text))) ≡ fields_of (first_line numbers) =
          ap (drop 1) (fields-first (drop at text) ∙ ap fields_of split ∙ fields-led lead high numbers) ∙ sym (fields-first numbers) in
          record {
            ok = led-same ∙ n.ok;
            found = record {
              past = omega (arith, f.past);
              within = f.within;
              rest = ap after_line split ∙ after-led lead high numbers ∙ f.rest;
              count = f.count ∙ ap length (sym q);
              values = λ i l. f.values i l ∙ ap (λ (l : List Text). nth (map value l) i) (sym q);
              small = f.small;
            };
          }

      pub led_numbers : (r : Option Numbers) → NumbersFrom text (at + 2) r → LedFrom lead text at r
      led_numbers None n = led-same ∙ n
      led_numbers (Some r) n = numbers_led r n
