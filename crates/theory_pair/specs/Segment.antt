-- One row in general, and its segments: from a state of the row over single cells to another state.
use Rattle.std.proofs.Math.Path.{◌≡◌}
use Rattle.std.specs.Prelude.{◌≢◌, Bool, length}
use mathlib.Core.List.{List, [], ◌∷◌, Memᴰ as In}
use Rattle.std.proofs.Math.Option.{Option, none, some}
use Rattle.std.proofs.Math.Bool.{true, false, Bool-discrete}
use Prim.Native.Nat.{ℕ, suc, ◌+◌, ◌-◌, ◌*◌, ◌≤◌}
use Rattle.std.proofs.Math.Decide.{dec_le, ℕ_discrete}
use Rattle.lists.specs.Numbers.{from}
use Rattle.theory_row.specs.Window.{start, step, May}
use Rattle.theory_row.specs.Arranged.{may?}
use Rattle.theory_pair.specs.Pick.{good_marks}
use Rattle.theory_pair.specs.Forward.{each, cost_if}
use Rattle.theory_pair.specs.Forward.{Trail, layer}

-- A row: its cells, numbered from 0 in file order; the poses that each is offered; how wide a cell is in a pose, what
-- it costs there in this row, what two neighbours pay, which cells are tall, and what the row's ends allow.
pub record Line (A : Type 0) : Type 0 where
  pub size : ℕ
  pub options : ℕ → List A
  pub wide : ℕ → A → ℕ
  pub own : ℕ → A → ℕ
  pub pay : ℕ × A → ℕ × A → ℕ
  pub tall : ℕ → Bool
  -- whether a cell may be the first of its row in a pose, and the last
  pub opens : ℕ → A → Bool
  pub closes : ℕ → A → Bool

-- a cell of the row with a pose
abbrev pub Choice : Type 0 → Type 0
Choice A = ℕ × A

-- how many cells are placed, the marks, and the last cell placed; none at the row's start, and at its end
abbrev pub State : Type 0 → Type 0
State A = ℕ × ℕ × Option (Choice A)

-- nothing for a tall cell
unfoldable pub if_single : {B : Type 0} → Bool → List B → List B
if_single true l = []
if_single false l = l

module _ {A : Type 0} (R : ℕ) (site_of : A → ℕ) (L : Line A) where
  -- c may stand right of the last one placed: rules 4 and 5; or be the row's first
  abbrev pub FitsTo : Option (Choice A) → Choice A → Type 0
  FitsTo none c = L.opens c.0 c.1 ≡ true
  FitsTo (some b) c = (site_of b.1 + L.wide b.0 b.1 ≤ site_of c.1)
      × (site_of c.1 ≢ site_of b.1 + L.wide b.0 b.1 + 1)

  -- a row may end after its last cell; a row without cells may end
  abbrev pub EndsWith : Option (Choice A) → Type 0
  EndsWith none = Unit {0}
  EndsWith (some c) = L.closes c.0 c.1 ≡ true

  abbrev pub pay_from : Option (Choice A) → Choice A → ℕ
  pay_from none c = 0
  pay_from (some b) c = L.pay b c

  abbrev pub first : State A
  first = (0, start R, none)

  abbrev pub last : State A
  last = (suc L.size, 0, none)

  abbrev pub next : State A → Choice A → State A
  next s c = (suc s.0, step R s.0 s.1 c.0, some c)

  abbrev pub charge : State A → Choice A → ℕ
  charge s c = L.own c.0 c.1 + pay_from s.2 c

  -- ---- a path, as a list of choices

  abbrev pub Ok : State A → Choice A → Type 0
  Ok s c = May R L.size s.0 s.1 c.0 × FitsTo s.2 c

  abbrev pub Goes : State A → List (Choice A) → Type 0
  Goes s [] = Unit {0}
  Goes s (c ∷ p) = Ok s c × In c.1 (L.options c.0) × Goes (next s c) p

  abbrev pub after : State A → List (Choice A) → State A
  after s [] = s
  after s (c ∷ p) = after (next s c) p

  abbrev pub cost : State A → List (Choice A) → ℕ
  cost s [] = 0
  cost s (c ∷ p) = charge s c + cost (next s c) p

  -- ---- one move, from state to state

  -- all cells are placed, and the row may end
  abbrev pub Done : State A → Type 0
  Done u = (u.0 ≡ L.size) × EndsWith u.2

  -- from u to the state that a choice leads to; or to the end, once that is allowed
  abbrev pub Into : State A → ℕ → ℕ → Option (Choice A) → Type 0
  Into u i m none = Done u × ((i ≡ suc u.0) × (m ≡ 0))
  Into u i m (some c) = Ok u c × ((i ≡ suc u.0) × (m ≡ step R u.0 u.1 c.0))

  abbrev pub toll_to : State A → Option (Choice A) → ℕ
  toll_to u none = 0
  toll_to u (some c) = charge u c

  abbrev pub Move : State A → State A → ℕ → Type 0
  Move u t x = Into u t.0 t.1 t.2 × (x ≡ toll_to u t.2)

  unfoldable pub both? : {P Q : Type 0} → Dec P → Dec Q → Dec (P × Q)
  both? (yes p) (yes q) = yes (p, q)
  both? (yes p) (no q) = no (λ f. q f.1)
  both? (no p) q = no (λ f. p f.0)

  unfoldable pub not? : {P : Type 0} → Dec P → Dec (¬ P)
  not? (yes p) = no (λ f. f p)
  not? (no p) = yes p

  unfoldable pub fitsTo? : (o : Option (Choice A)) (c : Choice A) → Dec (FitsTo o c)
  fitsTo? none c = Bool-discrete (L.opens c.0 c.1) true
  fitsTo? (some b) c = both? (dec_le (site_of b.1 + L.wide b.0 b.1) (site_of c.1))
      (not? (ℕ_discrete _ _))

  unfoldable pub ends_with? : (o : Option (Choice A)) → Dec (EndsWith o)
  ends_with? none = yes tt
  ends_with? (some c) = Bool-discrete (L.closes c.0 c.1) true

  unfoldable pub into? : (u : State A) (i m : ℕ) (o : Option (Choice A)) → Dec (Into u i m o)
  into? u i m none = both? (both? (ℕ_discrete u.0 L.size) (ends_with? u.2))
      (both? (ℕ_discrete i (suc u.0)) (ℕ_discrete m 0))
  into? u i m (some c) =
      both? (both? (may? R L.size u.0 u.1 c.0) (fitsTo? u.2 c))
      (both? (ℕ_discrete i (suc u.0)) (ℕ_discrete m (step R u.0 u.1 c.0)))

  -- the cost of a move: what the code looks up between two entries
  unfoldable pub move : State A → State A → Option ℕ
  move u t = cost_if (into? u t.0 t.1 t.2) (toll_to u t.2)

  -- ---- segments

  -- the states with i cells placed, the last of them single: that cell is within R
  -- of its place, and the marks have R + 1 ones
  unfoldable pub singles : ℕ → List (State A)
  singles i = each (from (i - suc R) (suc (2 * R))) λ k. if_single (L.tall k)
      (each (L.options k) λ a. each (good_marks R) λ m. (i, m, some (k, a)) ∷ [])

  -- from s over j single cells to t, and what that costs, t's charge among it
  abbrev pub Segment : State A → ℕ → State A → ℕ → Type 0
  Segment s j t x = Trail (λ i. singles (s.0 + suc i)) (λ i u v y. Move u v y) s j t x

  -- from s over single cells to t
  abbrev pub Way : State A → State A → ℕ → Type 0
  Way s t x = Segment s (t.0 - suc s.0) t x

  -- the least cost of that
  unfoldable pub least : State A → State A → Option ℕ
  least s t = layer (λ i. singles (s.0 + suc i)) (λ i u v. move u v) s (t.0 - suc s.0) t

  -- ---- a segment and its list of choices

  -- the cells of a list are single
  abbrev pub Plain : List (Choice A) → Type 0
  Plain [] = Unit {0}
  Plain (c ∷ p) = (L.tall c.0 ≡ false) × Plain p

  pub record SegmentListed (s : State A) (j : ℕ) (t : State A) (x : ℕ) : Type 0 where
    pub path : List (Choice A)
    pub size : length path ≡ j
    pub plain : Plain path
    pub goes : Goes s path
    pub toll : ℕ
    pub move : Move (after s path) t toll
    pub sum : cost s path + toll ≡ x
