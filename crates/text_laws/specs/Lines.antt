-- The lines of a text and the fields of a line, seen from their bytes: lines that end with a line
-- feed, and perhaps a last one that does not.
use Rattle.std.specs.Prelude.{ℕ, ◌≡◌, refl, Bool, true, false, cond, List, [], ◌∷◌, ◌++◌, eqb}
use Rattle.std.proofs.Common.{ap, ◌∙◌, arith, eqb-true, ne_eqb}
use Rattle.std.proofs.lemmas.Bool.{false≢true, eqb-false}
use Rattle.std.proofs.Math.Bool.{and-eq-true_iff}
use Rattle.definition.specs.Lists.{all}
use Rattle.definition.specs.Texts.{Text, line_feed, comma, onto, lines_of, fields_of, ended, is_digit, parted}
use Rattle.text_laws.specs.Numbers.{is_digit_lem}

-- no byte of it is a line feed
abbrev pub Unbroken : Text → Type 0
Unbroken [] = Unit {0}
Unbroken (b ∷ bs) = (b ≡ line_feed → ⊥) × Unbroken bs

-- a text and its lines
pub data Lines : Text → List Text → Type 0 where
  none : Lines [] []
  last : {b : ℕ} {body : Text} → Unbroken (b ∷ body) → Lines (b ∷ body) ((b ∷ body) ∷ [])
  line : (body : Text) {rest : Text} {ls : List Text} → Unbroken body → Lines rest ls
      → Lines (body ++ (line_feed ∷ rest)) ((body ++ (line_feed ∷ [])) ∷ ls)

onto-lines : {t : Text} {ls : List Text} (b : ℕ) → (b ≡ line_feed → ⊥) → Lines t ls → Lines (b ∷ t) (onto b ls)
onto-lines b d none = last (d, tt)
onto-lines b d (last u) = last (d, u)
onto-lines b d (line body u more) = line (b ∷ body) (d, u) more

pub lines : (t : Text) → Lines t (lines_of t)
unfolding lines_of
lines [] = none
lines (b ∷ bs) = go (eqb b line_feed) (eqb-true b line_feed) (eqb-false b line_feed) (lines bs)
  where
    go : (t : Bool) → (t ≡ true → b ≡ line_feed) → (t ≡ false → b ≡ line_feed → ⊥) → Lines bs (lines_of bs)
        → Lines (b ∷ bs) (cond t ((b ∷ []) ∷ lines_of bs) (onto b (lines_of bs)))
    go true e d more = rw (e refl) (line [] tt more)
    go false e d more = onto-lines b (d refl) more

pub first-line : (body rest : Text) → Unbroken body
    → lines_of (body ++ (line_feed ∷ rest)) ≡ (body ++ (line_feed ∷ [])) ∷ lines_of rest
unfolding lines_of
first-line [] rest u = refl
first-line (b ∷ body) rest u = rw (ne_eqb b line_feed u.0, first-line body rest u.1)

pub ended-line : (body : Text) → ended (body ++ (line_feed ∷ [])) ≡ true
unfolding ended
ended-line [] = refl
ended-line (b ∷ []) = refl
ended-line (b ∷ c ∷ body) = ended-line (c ∷ body)

pub unended : (b : ℕ) (body : Text) → Unbroken (b ∷ body) → ended (b ∷ body) ≡ false
unfolding ended
unended b [] u = ne_eqb b line_feed u.0
unended b (c ∷ body) u = unended c body u.1

-- ---- a text that goes on after a line feed

onto-more : (b c : ℕ) (bs : Text) (ls : List Text) → onto b (lines_of (c ∷ bs) ++ ls) ≡ onto b (lines_of (c ∷ bs)) ++ ls
unfolding lines_of
onto-more b c bs ls = go (eqb c line_feed) (lines_of bs)
  where
    go : (t : Bool) (ms : List Text)
        → onto b (cond t ((c ∷ []) ∷ ms) (onto c ms) ++ ls) ≡ onto b (cond t ((c ∷ []) ∷ ms) (onto c ms)) ++ ls
    go true ms = refl
    go false [] = refl
    go false (m ∷ ms) = refl

pub lines_more : (t u : Text) → ended t ≡ true → lines_of (t ++ u) ≡ lines_of t ++ lines_of u
unfolding lines_of ended
lines_more [] u e = absurd (false≢true e)
lines_more (b ∷ []) u e = rw e
lines_more (b ∷ c ∷ bs) u e = go (eqb b line_feed) (lines_more (c ∷ bs) u e)
  where
    go : (t : Bool) → lines_of (c ∷ (bs ++ u)) ≡ lines_of (c ∷ bs) ++ lines_of u
        → cond t ((b ∷ []) ∷ lines_of (c ∷ (bs ++ u))) (onto b (lines_of (c ∷ (bs ++ u))))
        ≡ cond t ((b ∷ []) ∷ lines_of (c ∷ bs)) (onto b (lines_of (c ∷ bs))) ++ lines_of u
    go true h = ap (λ (ls : List Text). (b ∷ []) ∷ ls) h
    go false h = ap (onto b) h ∙ onto-more b c bs (lines_of u)

-- a line alone
pub one_line : (body : Text) → Unbroken body → lines_of (body ++ (line_feed ∷ [])) ≡ (body ++ (line_feed ∷ [])) ∷ []
unfolding lines_of
one_line body u = first-line body [] u

-- ---- fields

-- digits are no commas and no line feeds
no_feed : (b : ℕ) → is_digit b ≡ true → eqb b line_feed ≡ false
no_feed b e = let d = is_digit_lem b e in ne_eqb b line_feed (λ s. omega arith)

no-comma : (b : ℕ) → is_digit b ≡ true → eqb b comma ≡ false
no-comma b e = let d = is_digit_lem b e in ne_eqb b comma (λ s. omega arith)

pub digits-unbroken : (d : Text) → all is_digit d ≡ true → Unbroken d
digits-unbroken [] e = tt
digits-unbroken (b ∷ bs) e =
    let p = (and-eq-true_iff (is_digit b) (all is_digit bs)).0 e in
    (eqb-false b line_feed (no_feed b p.0), digits-unbroken bs p.1)

pub unbroken_append : (a b : Text) → Unbroken a → Unbroken b → Unbroken (a ++ b)
unbroken_append [] b u v = v
unbroken_append (x ∷ a) b u v = (u.0, unbroken_append a b u.1 v)

-- digits before a text whose first field is empty are that field
pub field-first : (d rest : Text) (fs : List Text) → all is_digit d ≡ true → fields_of rest ≡ [] ∷ fs
    → fields_of (d ++ rest) ≡ d ∷ fs
unfolding fields_of
field-first [] rest fs e f = f
field-first (b ∷ d) rest fs e f =
    let p = (and-eq-true_iff (is_digit b) (all is_digit d)).0 e in
    rw (no_feed b p.0, no-comma b p.0, field-first d rest fs p.1 f)

pub field-then : (d rest : Text) → all is_digit d ≡ true → fields_of (d ++ (comma ∷ rest)) ≡ d ∷ fields_of rest
unfolding fields_of
field-then d rest e = field-first d (comma ∷ rest) (fields_of rest) e refl

pub field-last : (d rest : Text) → all is_digit d ≡ true → fields_of (d ++ (line_feed ∷ rest)) ≡ d ∷ []
unfolding fields_of
field-last d rest e = field-first d (line_feed ∷ rest) [] e refl

-- fields with commas between them
abbrev pub joined : List Text → Text
joined fs = parted (comma ∷ []) fs

onto-joined : (b : ℕ) (fs : List Text) → joined (onto b fs) ≡ b ∷ joined fs
onto-joined b [] = refl
onto-joined b (f ∷ []) = refl
onto-joined b (f ∷ g ∷ fs) = refl

-- a line has a field
after-comma : (t : Text) → joined ([] ∷ fields_of t) ≡ comma ∷ joined (fields_of t)
unfolding fields_of
after-comma [] = refl
after-comma (b ∷ bs) = go (eqb b line_feed) (eqb b comma) (fields_of bs)
  where
    go : (t u : Bool) (fs : List Text)
        → joined ([] ∷ cond t ([] ∷ []) (cond u ([] ∷ fs) (onto b fs)))
        ≡ comma ∷ joined (cond t ([] ∷ []) (cond u ([] ∷ fs) (onto b fs)))
    go true u fs = refl
    go false true fs = refl
    go false false [] = refl
    go false false (f ∷ fs) = refl

pub fields-joined : (body : Text) → Unbroken body → joined (fields_of (body ++ (line_feed ∷ []))) ≡ body
unfolding fields_of
fields-joined [] u = refl
fields-joined (b ∷ body) u =
    rw (ne_eqb b line_feed u.0) (go (eqb b comma) (eqb-true b comma) (fields-joined body u.1))
  where
    go : (t : Bool) → (t ≡ true → b ≡ comma) → joined (fields_of (body ++ (line_feed ∷ []))) ≡ body
        → joined (cond t ([] ∷ fields_of (body ++ (line_feed ∷ []))) (onto b (fields_of (body ++ (line_feed ∷ [])))))
        ≡ b ∷ body
    go true e h = rw (e refl) (after-comma (body ++ (line_feed ∷ [])) ∙ ap (λ (t : Text). comma ∷ t) h)
    go false e h = onto-joined b (fields_of (body ++ (line_feed ∷ []))) ∙ ap (λ (t : Text). b ∷ t) h
