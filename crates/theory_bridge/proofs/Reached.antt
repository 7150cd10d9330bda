-- A list of moves reaches every legal placement: cell by cell, shifts from the given site, then a
-- mirroring and a layout change where they are due.
-- What a list reaches has a pose for each cell.
use Rattle.std.specs.Prelude.{◌≡◌, List, [], ◌∷◌, ◌++◌, map, length, ltb}
use Rattle.std.proofs.Math.Path.{refl, ap}
use Rattle.std.proofs.Common.{sym, ◌∙◌, subst, lt-ltb}
use Rattle.std.proofs.Math.Bool.{cond}
use Prim.Native.Nat.{ℕ, zero, suc, pred, ◌+◌, ◌-◌, ◌≤◌, ◌<◌}
use native.Mathlib.Omega.{arith}
use Rattle.std.proofs.Math.Decide.{dec_lt}
use Rattle.std.proofs.lemmas.List.{length-map}
use Rattle.std.proofs.Math.ListN.{get_or-map}
use Rattle.definition.specs.Job.{Job}
use Rattle.definition.specs.Placement.{Pose, Placement}
use Rattle.definition.specs.Rules.{Legal, absent_cell, cell_at, pose_at}
use Rattle.definition.specs.Moves.{Change, left, right, mirroring, layoutChange, Move}
use Rattle.definition.specs.Moves.{change_by, alter, moved, moved_by, as_given, given_rows, after}
use Rattle.definition_laws.specs.Sound.{Sound}
use Rattle.theory_bridge.proofs.Offers.{keeps_allowed, few-layouts}

-- ---- one cell: changes, each on what the last one left

changes_by : Pose → List Change → Pose
changes_by p [] = p
changes_by p (c ∷ cs) = changes_by (change_by c p) cs

-- changes from p to q
record Changes (p q : Pose) : Type 0 where
  list : List Change
  ends : changes_by p list ≡ q

changes_append : (p : Pose) (cs ds : List Change) → changes_by p (cs ++ ds) ≡ changes_by (changes_by p cs) ds
unfolding changes_by
changes_append p [] ds = refl
changes_append p (c ∷ cs) ds = changes_append (change_by c p) cs ds

changes_then : {p q r : Pose} → Changes p q → Changes q r → Changes p r
changes_then {p} a b = record {
  list = a.list ++ b.list;
  ends = changes_append p a.list b.list ∙ ap (λ x. changes_by x b.list) a.ends ∙ b.ends;
}

abbrev pose : ℕ → ℕ → ℕ → Pose
pose s l m = record { site = s; layout = l; mark = m }

module _ (l m : ℕ) where
  rights : (n s t : ℕ) → t ≡ s + n → t ≤ 9999 → Changes (pose s l m) (pose t l m)
  unfolding changes_by change_by
  rights zero s t e h = record { list = []; ends = ap (λ x. pose x l m) (omega arith) }
  rights (suc n) s t e h =
      let r = rights n (suc s) t (omega arith) h in
      let one : cond (ltb s 9999) (suc s) s ≡ suc s = ap (λ b. cond b (suc s) s) (lt-ltb s 9999 (omega arith)) in
      record { list = right ∷ r.list; ends = ap (λ x. changes_by (pose x l m) r.list) one ∙ r.ends }

  lefts : (n s t : ℕ) → s ≡ t + n → Changes (pose s l m) (pose t l m)
  unfolding changes_by change_by
  lefts zero s t e = record { list = []; ends = ap (λ x. pose x l m) (omega arith) }
  lefts (suc n) s t e =
      let r = lefts n (t + n) t refl in
      let one : pred s ≡ t + n = omega arith in
      record { list = left ∷ r.list; ends = ap (λ x. changes_by (pose x l m) r.list) one ∙ r.ends }

  shifts : (s t : ℕ) → t ≤ 9999 → Changes (pose s l m) (pose t l m)
  shifts s t h = go (dec_lt s t)
    where
      go : Dec (s < t) → Changes (pose s l m) (pose t l m)
      go (yes k) = rights (t - s) s t (omega arith) h
      go (no k) = lefts (s - t) s t (omega arith)

mirrors : (s l m : ℕ) → m < 2 → Changes (pose s l 0) (pose s l m)
unfolding changes_by change_by
mirrors s l zero h = record { list = []; ends = refl }
mirrors s l (suc zero) h = record { list = mirroring ∷ []; ends = refl }
mirrors s l (suc (suc m)) h = absurd (omega arith)

layouts : (s l m : ℕ) → l < 2 → Changes (pose s 0 m) (pose s l m)
unfolding changes_by change_by
layouts s zero m h = record { list = []; ends = refl }
layouts s (suc zero) m h = record { list = layoutChange ∷ []; ends = refl }
layouts s (suc (suc l)) m h = absurd (omega arith)

changes_to : (s : ℕ) (p : Pose) → p.site ≤ 9999 → p.layout < 2 → p.mark < 2 → Changes (pose s 0 0) p
changes_to s p a b c = changes_then (shifts 0 0 s p.site a)
    (changes_then (mirrors p.site 0 p.mark c) (layouts p.site p.layout p.mark b))

-- ---- all cells: moves

abbrev on_first : Change → Move
on_first c = record { cell = 0; change = c }

abbrev on_later : Move → Move
on_later m = record { cell = suc m.cell; change = m.change }

moved_append : (P : Placement) (ms ns : List Move) → moved_by P (ms ++ ns) ≡ moved_by (moved_by P ms) ns
unfolding moved_by
moved_append P [] ns = refl
moved_append P (m ∷ ms) ns = moved_append (moved P m) ms ns

moved-first : (p : Pose) (ps : Placement) (cs : List Change) → moved_by (p ∷ ps) (map on_first cs) ≡ changes_by p cs ∷ ps
unfolding moved_by alter changes_by
moved-first p ps [] = refl
moved-first p ps (c ∷ cs) = moved-first (change_by c p) ps cs

moved_later : (p : Pose) (ps : Placement) (ms : List Move) → moved_by (p ∷ ps) (map on_later ms) ≡ p ∷ moved_by ps ms
unfolding moved_by alter
moved_later p ps [] = refl
moved_later p ps (m ∷ ms) = moved_later p (moved ps m) ms

moves-to : (P Q : Placement) → length P ≡ length Q → ((k : ℕ) → k < length P → Changes (pose_at P k) (pose_at Q k))
    → (ms : List Move) × (moved_by P ms ≡ Q)
unfolding moved_by
moves-to [] [] e h = ([], refl)
moves-to [] (q ∷ qs) e h = absurd (omega arith)
moves-to (p ∷ ps) [] e h = absurd (omega arith)
moves-to (p ∷ ps) (q ∷ qs) e h =
    let a = h 0 (omega arith) in
    let b = moves-to ps qs (omega arith) (λ k l. h (suc k) (omega arith)) in (
      map on_first a.list ++ map on_later b.0,
      moved_append (p ∷ ps) (map on_first a.list) (map on_later b.0)
          ∙ ap (λ P. moved_by P (map on_later b.0)) (moved-first p ps a.list ∙ ap (λ x. x ∷ ps) a.ends)
          ∙ moved_later q ps b.0
          ∙ ap (λ x. q ∷ x) b.1,
    )

pub reached : (j : Job) → Sound j → (P : Placement) → Legal j P → (ms : List Move) × (after j ms ≡ P)
unfolding after
reached j sound P l = moves-to (given_rows j) P (length-map j.cells as_given ∙ sym l.each)
    (λ k h. each k (let e = length-map j.cells as_given in omega arith))
  where
    each : (k : ℕ) → k < length j.cells → Changes (pose_at (given_rows j) k) (pose_at P k)
    each k h =
        let a = (keeps_allowed j k P).0 (l.rule 1 k h, l.rule 2 k h, l.rule 3 k h) in
        let d = sound.header.few_sites in
        let f = few-layouts j sound k in
        let e = a.layout in
        let s = a.fits in
        subst (λ p. Changes p (pose_at P k)) (sym (get_or-map as_given j.cells k absent_cell))
        (changes_to (cell_at j k).given (pose_at P k) (omega arith) (omega arith) a.mark)

-- ---- what a list reaches

alter-size : (f : Pose → Pose) (k : ℕ) (P : Placement) → length (alter f k P) ≡ length P
unfolding alter
alter-size f k [] = refl
alter-size f zero (p ∷ ps) = refl
alter-size f (suc k) (p ∷ ps) = ap suc (alter-size f k ps)

moved-size : (P : Placement) (ms : List Move) → length (moved_by P ms) ≡ length P
unfolding moved_by
moved-size P [] = refl
moved-size P (m ∷ ms) = moved-size (moved P m) ms ∙ alter-size (change_by m.change) m.cell P

pub after-size : (j : Job) (ms : List Move) → length (after j ms) ≡ length j.cells
unfolding after
after-size j ms = moved-size (given_rows j) ms ∙ length-map j.cells as_given
