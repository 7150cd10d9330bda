-- A header and a cell as values: what the words are made of, and their ranges.
use Rattle.std.specs.Prelude.{ℕ, suc, ◌+◌, ◌-◌, ◌*◌, ◌/◌, ◌%◌, ◌≤◌, ◌<◌, ◌≡◌, Bool, length, leb, ltb, eqb}
use Rattle.std.proofs.Common.{sym, ap₂}
use Rattle.std.proofs.Math.Bool.{true, false, cond}
use native.Mathlib.Omega.{arith}
use Rattle.std.proofs.Math.ListN.{get_or-eq_default}
use Rattle.definition.specs.Job as paper
use Rattle.definition.specs.Job.{max_sites, max_displacement, max_width, max_weight, max_given, max_height}
use Rattle.definition.specs.Placement.{Pose}
use Rattle.definition.specs.Rules.{Offer, no_layout, apart, offer_of}
use Rattle.definition_laws.specs.Sound.{SoundHeader, SoundCell}
use Rattle.definition_laws.specs.Offers.{limit-within}
use Rattle.lists.specs.Compare.{Eq?, same, differs, eq?, Le?, low, high, le?}
use Rattle.theory_bridge.specs.Paired.{is_offered, pose_number, own_of}
use Rattle.theory_bridge.proofs.Offers.{offered-low}
use Rattle.job.specs.declared.Header.{Header}
use Rattle.job.specs.declared.Cell.{Cell}
use Rattle.job.specs.Value.{header_of, cell_of}
use Rattle.job.specs.Parts.{width_in, height_in, first_of}
use Rattle.job.specs.Layouts.{width_small}
use Rattle.theory_tables.specs.Steps.{B}
use Rattle.search_row.specs.Words.{first_word, width_word, tall_word}
use Rattle.search_row_fill.specs.Words.{alone, edge, first_site, shape_word, height_word}

-- the values as a job of one cell, and that they are in range
abbrev pub one : Header → Cell → paper.Job
one h c = alone (header_of h) (cell_of c)

pub record Ranged (h : Header) (c : Cell) : Type 0 where
  pub some_sites : 1 ≤ h.sites
  pub few_sites : h.sites ≤ max_sites
  pub displacement : h.displacement ≤ max_displacement
  pub step : h.step ≤ max_weight
  pub shift : h.shift ≤ max_weight
  pub mirror : h.mirror ≤ max_weight
  pub swap : h.swap ≤ max_weight
  pub filled : h.filled ≤ max_weight
  pub given : c.given ≤ max_given
  pub width : (l : ℕ) → width_in (cell_of c) l ≤ max_width
  pub height : (l i : ℕ) → height_in (cell_of c) l i ≤ max_height

height-small : (h : paper.Header) (c : paper.Cell) (l i : ℕ) → SoundCell h c → height_in c l i ≤ max_height
height-small h c l i s = go (leb (suc l) (length c.layouts)) (le? (suc l) (length c.layouts))
  where
    go : (t : Bool) → Le? (suc l) (length c.layouts) t → height_in c l i ≤ max_height
    go true (low g) = (s.layout l g).high i
    go false (high g) = rw (height_in, get_or-eq_default c.layouts no_layout {n = l} (omega arith)) (omega arith)

pub ranged : (h : Header) (c : Cell) → SoundHeader (header_of h) → SoundCell (header_of h) (cell_of c) → Ranged h c
unfolding header_of cell_of
ranged h c p q = record {
  some_sites = p.some_sites;
  few_sites = p.few_sites;
  displacement = p.displacement;
  step = p.step;
  shift = p.shift;
  mirror = p.mirror;
  swap = p.swap;
  filled = p.filled;
  given = q.given;
  width = λ l. width_small (header_of h) (cell_of c) l q;
  height = λ l i. height-small (header_of h) (cell_of c) l i q;
}

-- ---- what is offered

-- what the cell is offered
abbrev pub offered : Header → Cell → Offer
offered h c = offer_of (header_of h) (cell_of c)

-- pose number a of a cell with that offer
abbrev pub numbered : Cell → Offer → ℕ → Pose
numbered c o a = record { site = c.given + a / 4 - o.limit; layout = a % 4 / 2; mark = a % 2 }

-- ---- what it costs

one-digit : (m : ℕ) → m < 2 → cond (eqb m 1) 1 0 ≡ m
one-digit m h = go (eqb m 1) (eq? m 1)
  where
    go : (t : Bool) → Eq? m 1 t → cond t 1 0 ≡ m
    go true (same e) = sym e
    go false (differs d) = omega arith

pub cost-same : (h : Header) (c : Cell) (a : ℕ) (o : Offer) → o ≡ offered h c
    → own_of (one h c) 0 (pose_number (one h c) 0 a)
    ≡ h.shift * apart (numbered c o a).site c.given + h.mirror * (a % 2) + h.swap * (a % 4 / 2)
unfolding own_of pose_number header_of cell_of
cost-same h c a o e =
    rw e
    (ap₂ (λ x y. h.shift * apart (numbered c (offered h c) a).site c.given + h.mirror * x + h.swap * y)
    (one-digit (a % 2) (omega arith)) (one-digit (a % 4 / 2) (omega arith)))

-- the limit that the offer of a cell has is at most D
pub limit-low : (h : Header) (c : Cell) (o : Offer) → o ≡ offered h c → o.limit ≤ h.displacement
unfolding header_of
limit-low h c o e = rw e (limit-within (header_of h) (cell_of c))

-- one that is offered is not left of its limit
module _ (h : Header) (c : Cell) (row a : ℕ) where
  pub offered-right : is_offered (one h c) 0 a ≡ true → (offered h c).limit ≤ c.given + a / 4
  unfolding header_of cell_of
  offered-right e = offered-low (one h c) 0 a e

-- ---- the other words

module _ (h : Header) (c : Cell) (r : Ranged h c) where
  pub shape-low : (i : ℕ) → shape_word (one h c) 0 i ≤ B
  unfolding shape_word header_of cell_of
  shape-low i = go (eqb i first_word) (ltb i tall_word) (eqb c.row 2)
    where
      go : (t u v : Bool)
          → cond t (first_site (one h c) 0) (cond u (width_in (cell_of c) (i - width_word)) (cond v 1 0)) ≤ B
      go true u v = let g = r.given in let d = r.displacement in omega arith
      go false true v = let g = r.width (i - width_word) in omega arith
      go false false true = omega arith
      go false false false = omega arith

  pub height-low : (row u : ℕ) → height_word (one h c) row 0 u ≤ B
  unfolding height_word
  height-low row u = let g = r.height (u % 4 / 2) (first_of (cell_of c).row row + edge u) in omega arith
