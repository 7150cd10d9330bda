-- The entries of a list from i on.
use Rattle.std.specs.Prelude.{◌≡◌, List, [], ◌∷◌, ℕ, suc, ◌≤◌, ◌<◌, length, get_or, drop, set}
use Rattle.std.proofs.Common.{sym, ap, ◌∙◌, arith, length-set, length-drop, drop-cons, drop-set-lt, get_or-set_same}

module _ {A : Type 0} where
  -- the entry at i, and those from the next on
  pub tail_cons : (l : List A) (i n : ℕ) (d : A) → n ≡ suc i → i < length l → drop i l ≡ get_or l i d ∷ drop n l
  tail_cons l i n d e h = drop-cons l i d h ∙ ap (λ x. get_or l i d ∷ drop x l) (sym e)

  -- what is the same for no entry and for one, from the last one on
  pub tail-last : {C : Type 0} (f : List A → C) (z : C) → f [] ≡ z → ((x : A) → f (x ∷ []) ≡ z)
      → (l : List A) (i : ℕ) → length l ≤ suc i → f (drop i l) ≡ z
  tail-last f z none one l i h = go (drop i l) (simp length-drop (omega arith))
    where
      go : (t : List A) → length t ≤ 1 → f t ≡ z
      go [] g = none
      go (x ∷ []) g = one x
      go (x ∷ y ∷ t) g = absurd (omega arith)

  -- a write in front of a tail makes it longer
  pub tail-set : (l : List A) (i : ℕ) (a : A) → i < length l → drop i (set l i a) ≡ a ∷ drop (suc i) l
  tail-set l i a h =
      drop-cons (set l i a) i a (rw (length-set l i a) h)
      ∙ rw (get_or-set_same l i a a h, drop-set-lt (suc i) l i a (omega arith))
