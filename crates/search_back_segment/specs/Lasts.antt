-- The last cell of a row: the least of its words is what the tables say of the row's end.
use Rattle.std.specs.Prelude.{ℕ, ◌≤◌, ◌<◌, ◌≡◌, Bool, ◌&&◌, Option, None, Some}
use Rattle.std.proofs.Math.Path.{refl, ap, ap₂}
use Rattle.std.proofs.Math.Bool.{true, false, not, cond}
use native.Mathlib.Omega.{arith}
use borrow.Author.Tests.{lt-ltb, ltb-true}
use Rattle.std.proofs.Math.Dec.{ltb}
use Rattle.lists.specs.Numbers.{from}
use Rattle.theory_pair.specs.Coded.{lowest}
use Rattle.theory_tables.specs.Lowest.{loop_member, loop_above}
use Rattle.theory_tables.specs.Steps.{B, Deck, Layer, state_count, last_at, is_there, ends}
use Rattle.search_back_segment.specs.declared.Place.{Place}
use Rattle.search_back_segment.specs.Traces.{LeastOf, LastFound, last_pays, last_of, EndFound}

module _ (D : Deck) (R : ℕ) (f : Layer) where
  -- one of the words that the end is the least of
  pub last_in_lem : (q b : ℕ) → b < D.poses → is_there D R D.size q ≡ true → D.tall (last_at R D.size q) ≡ false
      → last_of D R f q b ≡ last_pays D R f q b
  unfolding last_of
  last_in_lem q b h e s = rw (lt-ltb b D.poses h, e, s) refl

  -- none of them
  pub last_out : (q b : ℕ) → is_there D R D.size q ≡ false → last_of D R f q b ≡ B
  unfolding last_of
  last_out q b e = go (ltb b D.poses) (is_there D R D.size q) e
    where
      go : (t s : Bool) → s ≡ false
          → cond t (cond s (cond (D.tall (last_at R D.size q)) B (last_pays D R f q b)) B) B ≡ B
      go true s z = ap (λ s. cond s (cond (D.tall (last_at R D.size q)) B (last_pays D R f q b)) B) z
      go false s z = refl

  pub last-tall : (q b : ℕ) → D.tall (last_at R D.size q) ≡ true → last_of D R f q b ≡ B
  unfolding last_of
  last-tall q b e = go (ltb b D.poses) (is_there D R D.size q) (D.tall (last_at R D.size q)) e
    where
      go : (t s u : Bool) → u ≡ true → cond t (cond s (cond u B (last_pays D R f q b)) B) B ≡ B
      go true true u z = ap (λ u. cond u B (last_pays D R f q b)) z
      go true false u z = refl
      go false s u z = refl

  -- a word below B is one of them
  pub record LastWord (q b : ℕ) : Type 0 where
    pub pose : b < D.poses
    pub there : is_there D R D.size q ≡ true
    pub single : D.tall (last_at R D.size q) ≡ false
    pub word : last_of D R f q b ≡ last_pays D R f q b

  pub last-met : (q b : ℕ) → last_of D R f q b < B → LastWord q b
  unfolding last_of
  last-met q b l = go (ltb b D.poses) refl (is_there D R D.size q) refl (D.tall (last_at R D.size q)) refl l
    where
      go : (t : Bool) → ltb b D.poses ≡ t → (s : Bool) → is_there D R D.size q ≡ s → (u : Bool)
          → D.tall (last_at R D.size q) ≡ u
          → cond t (cond s (cond u B (last_pays D R f q b)) B) B < B → LastWord q b
      go true x true y false z h = record {
        pose = ltb-true b D.poses x;
        there = y;
        single = z;
        word = last_in_lem q b (ltb-true b D.poses x) y z;
      }
      go false x s y u z h = absurd (omega arith)
      go true x false y u z h = absurd (omega arith)
      go true x true y true z h = absurd (omega arith)

  -- a bound below all of them
  above : (best : ℕ) → best ≤ B → ((q b : ℕ) → q < state_count R → b < D.poses → best ≤ last_of D R f q b)
      → best ≤ ends D R f
  unfolding ends
  above best c g = loop_above B _ (state_count R) best c λ q x. go q x (is_there D R D.size q) refl
      (D.tall (last_at R D.size q)) refl
    where
      go : (q : ℕ) → q < state_count R → (s : Bool) → is_there D R D.size q ≡ s → (u : Bool)
          → D.tall (last_at R D.size q) ≡ u
          → best ≤ cond (s && not u) (lowest B (last_pays D R f q) (from 0 D.poses)) B
      go q x true y false z =
          loop_above B (last_pays D R f q) D.poses best c (λ b h. omega (arith, g q b x h, last_in_lem q b h y z))
      go q x true y true z = c
      go q x false y u z = c

  member : (q b : ℕ) → q < state_count R → LastWord q b → ends D R f ≤ last_pays D R f q b
  unfolding ends
  member q b x m =
      omega (
        arith,
        loop_member B (λ q. cond (is_there D R D.size q && not (D.tall (last_at R D.size q)))
            (lowest B (last_pays D R f q) (from 0 D.poses)) B) (state_count R) q x,
        ap₂ (λ s u. cond (s && not u) (lowest B (last_pays D R f q) (from 0 D.poses)) B) m.there m.single,
        loop_member B (last_pays D R f q) D.poses b m.pose,
      )

  -- the least of their words is below what ending costs; that of a cell is it, and the cell's kept word is below B
  module _ {count best : ℕ} (e : count ≡ state_count R) where
    pub least-ends : {last : Option Place} → LeastOf D R f count 0 best last → best ≤ ends D R f
    least-ends w = above best w.capped (λ q b x y. w.states q b (omega arith) y)

    pub last_found : {p : Place} → LeastOf D R f count 0 best (Some p) → LastFound D R f p.state p.pose
    last_found {p} w =
        let m = w.met in
        let n = last-met p.state p.pose (omega (arith, m.2)) in
        record {
          state = m.1;
          pose = n.pose;
          there = n.there;
          single = n.single;
          word = omega (arith, member p.state p.pose m.1 n, n.word, m.2, least-ends w);
        }

    pub last-low : {p : Place} → LeastOf D R f count 0 best (Some p) → f p.state p.pose < B
    last-low {p} w =
        let m = w.met in
        omega (arith, m.2, (last-met p.state p.pose (omega (arith, m.2))).word)

  -- the least of all of them is what ending costs
  pub end-found : (count best : ℕ) (last : Option Place) → count ≡ state_count R → LeastOf D R f count 0 best last
      → EndFound D R f last
  end-found count best None e w = omega (arith, w.met, least-ends e w)
  end-found count best (Some p) e w = (last_found e w, last-low e w)
