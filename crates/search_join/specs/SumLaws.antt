-- Laws of the sums: one state more, one start state more, one that has no way.
use Prim.Native.Nat.{ℕ, ◌+◌, ◌*◌, ◌≤◌, ◌<◌, min}
use Rattle.std.specs.Prelude.{◌≡◌, List, Bool, length, set, replicate}
use Rattle.std.proofs.Math.Path.{sym, ap}
use Rattle.std.proofs.Common.{ap₂, ◌∙◌, length-set, get_or-set_same, get_or-set_other}
use native.Mathlib.Omega.{arith}
use Rattle.std.proofs.Math.Decide.{ℕ_discrete, dec_lt}
use Rattle.std.proofs.Math.ListN.{get_or}
use Rattle.std.proofs.lemmas.List.{length-replicate, get_or-replicate}
use Rattle.search_store.specs.Map.{case_at, costs_at, state_block, flags_from, max_lanes}
use Rattle.lists.specs.Numbers.{from}
use Rattle.theory_pair.specs.Coded.{lowest, lowest-low}
use Rattle.theory_tables.specs.Steps.{B}
use Rattle.search_lanes.specs.Lanes.{always}
use Rattle.search_lanes.specs.Store.{Frame, Written, said, said_in}
use Rattle.search_lanes.specs.Laws.{said-none, said-word, low-set}
use Rattle.search_lanes.specs.Lowered.{LoweredAt, lowered_at-low}
use Rattle.search_join.specs.declared.sums.Join.{Join}
use Rattle.search_join.specs.Tables.{cases_in, costs_in, Table}
use Rattle.search_join.specs.Sums.{start_sum, word_sum, sum_flags, sum_in, common_words}
use Rattle.search_join.specs.Sums.{SumsRoom, NoFlags, Nones, WaysAdded, Sums, AllSummed, Commons}
use Rattle.search_join.specs.Laws.{lowest-zero, lowest-more, lowest-same}

-- the costs are there for other lanes, whatever the table
pub table_for_lem : {starts lanes I : ℕ} {st : List ℕ} (l i : ℕ) → Table starts lanes I st → l ≤ max_lanes → i ≤ 24
    → Table starts l i st
table_for_lem l i t h g = record { states = t.states; few = h; stage = g; long = t.long; low = t.low }

-- the word at an equal place
same_word : (st : List ℕ) (i j : ℕ) → i ≡ j → get_or st i 0 ≡ get_or st j 0
same_word st i j e = ap (λ (k : ℕ). get_or st k 0) e

-- ---- what a row says

-- a row of costs whose flag is 0 says B
pub cost-none : (st : List ℕ) (row s l q a costs : ℕ) → costs ≡ costs_at row s + q * state_block + 0 * max_lanes
    → get_or st (costs + flags_from + a) 0 ≡ 0 → costs_in st row s l q a ≡ B
unfolding costs_in
cost-none st row s l q a costs e z = said-none _ _ (same_word st _ _ (omega arith) ∙ z)

-- another one says its words
pub cost-word : (st : List ℕ) (row s l q a costs : ℕ) → costs ≡ costs_at row s + q * state_block + 0 * max_lanes
    → (get_or st (costs + flags_from + a) 0 ≡ 0 → ⊥)
    → costs_in st row s l q a ≡ get_or st (costs + a * max_lanes + l) 0
unfolding costs_in
cost-word st row s l q a costs e d =
    said-word _ _ (λ z. d (same_word st _ _ (omega arith) ∙ z)) ∙ same_word st _ _ (omega arith)

-- in a row that says less than B anywhere the flag is not 0
pub said_live : (flag word : ℕ) → said flag word < B → flag ≡ 0 → ⊥
said_live flag word h z = omega (arith, said-none flag word z)

-- ---- the words of a sum

pub start-words : (I : ℕ) (st : List ℕ) (q₀ a s t l at costs : ℕ)
    → at ≡ case_at I s t → costs ≡ costs_at 0 s + q₀ * state_block + 0 * max_lanes
    → (get_or st (costs + flags_from + a) 0 ≡ 0 → ⊥)
    → word_sum st at (costs + a * max_lanes) l ≡ start_sum I st q₀ a t l s
unfolding start_sum cases_in
start-words I st q₀ a s t l at costs e c d =
    omega (arith, same_word st (at + l) (case_at I s t + l) (omega arith), cost-word st 0 s l q₀ a costs c d)

-- the word of a case and what the costs say
pub start-said : (I : ℕ) (st : List ℕ) (q₀ a s t l at costs v : ℕ)
    → at ≡ case_at I s t → costs ≡ costs_at 0 s + q₀ * state_block + 0 * max_lanes → v ≡ said_in st costs a l
    → get_or st (at + l) 0 + v ≡ start_sum I st q₀ a t l s
unfolding start_sum cases_in costs_in
start-said I st q₀ a s t l at costs v e c d =
    let p : costs ≡ costs_at 0 s + q₀ * state_block = omega arith in
    let r = rw p at d in
    omega (arith, same_word st (at + l) (case_at I s t + l) (omega arith))

-- a start state without any way to q₀ in pose a
pub start_none : (I : ℕ) (st : List ℕ) (q₀ a s t l costs : ℕ) → costs ≡ costs_at 0 s + q₀ * state_block + 0 * max_lanes
    → get_or st (costs + flags_from + a) 0 ≡ 0 → B ≤ start_sum I st q₀ a t l s
unfolding start_sum
start_none I st q₀ a s t l costs e z = omega (arith, cost-none st 0 s l q₀ a costs e z)

-- a row of cases without any case
pub row-none : (j : Join) {st commons : List ℕ} (q₀ a s t l : ℕ) → Commons j st commons → s < j.starts
    → t < j.starts → l < j.lanes → B ≤ get_or commons (s * 12 + t) 0
    → B ≤ start_sum j.i st q₀ a t l s
unfolding start_sum
row-none j q₀ a s t l w h g k b = omega (arith, w.below s t l h g k)

-- ---- the common words

-- a word at most that of a case
pub case-word : (st : List ℕ) (I s t l at : ℕ) {v : ℕ} → at ≡ case_at I s t → v ≤ get_or st (at + l) 0
    → v ≤ cases_in st I s t l
unfolding cases_in
case-word st I s t l at e h = omega (arith, same_word st (at + l) (case_at I s t + l) (omega arith))

-- no word is over any lane
pub commons_zero : (j : Join) (st : List ℕ) → j.starts ≤ 12 → Commons j st (replicate common_words 0)
commons_zero j st few =
    record {
      long = length-replicate {A = ℕ} common_words 0;
      below = λ s t l h g k. omega (arith, get_or-replicate {A = ℕ} common_words (s * 12 + t) 0 0 (omega arith));
    }

-- one of them is written
pub commons_set : (j : Join) {st commons : List ℕ} (s t v : ℕ) → Commons j st commons → j.starts ≤ 12 → s < j.starts
    → t < j.starts
    → ((l : ℕ) → l < j.lanes → v ≤ cases_in st j.i s t l)
    → Commons j st (set commons (s * 12 + t) v)
commons_set j {st} {commons} s t v w few h g low =
    record {
      long = length-set commons (s * 12 + t) v ∙ w.long;
      below = λ p u l x y z. go p u l x y z (ℕ_discrete (p * 12 + u) (s * 12 + t));
    }
  where
    go : (p u l : ℕ) → p < j.starts → u < j.starts → l < j.lanes → Dec (p * 12 + u ≡ s * 12 + t)
        → get_or (set commons (s * 12 + t) v) (p * 12 + u) 0 ≤ cases_in st j.i p u l
    go p u l x y z (no d) = omega (arith, get_or-set_other commons (s * 12 + t) (p * 12 + u) v 0 d, w.below p u l x y z)
    go p u l x y z (yes e) =
        let e₀ : p ≡ s = omega arith in
        let e₁ : u ≡ t = omega arith in
        rw (e₀, e₁)
        (omega (arith, get_or-set_same commons (s * 12 + t) v 0 (omega (arith, w.long)), low l z))

-- the same cases are read in another store
pub commons_ext : (j : Join) {st commons : List ℕ} (new : List ℕ) → Commons j st commons
    → ((s t l : ℕ) → s < j.starts → t < j.starts → l < j.lanes → cases_in new j.i s t l ≡ cases_in st j.i s t l)
    → Commons j new commons
commons_ext j new w same =
    record { long = w.long; below = λ s t l h g k. omega (arith, w.below s t l h g k, same s t l h g k) }

-- ---- one row of sums

-- another row has the same words
row-away : {t lanes : ℕ} {old new : List ℕ} → Frame (t * max_lanes) (t * max_lanes + lanes) old new → lanes ≤ max_lanes
    → (u l : ℕ) → (u ≡ t → ⊥) → l < lanes → get_or new (u * max_lanes + l) 0 ≡ get_or old (u * max_lanes + l) 0
row-away {t} {lanes} {old} {new} w n u l d k = go (dec_lt u t)
  where
    go : Dec (u < t) → get_or new (u * max_lanes + l) 0 ≡ get_or old (u * max_lanes + l) 0
    go (yes h) = w.low (u * max_lanes + l) (omega arith)
    go (no h) = w.high (u * max_lanes + l) (omega arith)

-- the first ways of a state: its row is written, then its flag
pub ways-first : {f : ℕ → ℕ} {t lanes : ℕ} {old mid : List ℕ} → SumsRoom old → t < 12 → lanes ≤ max_lanes
    → get_or old (sum_flags + t) 0 ≡ 0 → Written (λ l. min (f l) B) (t * max_lanes) lanes old mid
    → WaysAdded f t lanes old (set mid (sum_flags + t) 1)
ways-first {f} {t} {lanes} {old} {mid} r h n z w =
    record {
      room = record {
        long = length-set mid (sum_flags + t) 1 ∙ w.frame.long ∙ r.long;
        low = low-set (sum_flags + t) 1 w.low inside (omega arith);
      };
      done = λ l k.
          omega (
            arith,
            said-word (get_or new (sum_flags + t) 0) (get_or new (t * max_lanes + l) 0) (λ y. omega (arith, flag)),
            said-none (get_or old (sum_flags + t) 0) (get_or old (t * max_lanes + l) 0) z,
            get_or-set_other mid (sum_flags + t) (t * max_lanes + l) 1 0 (omega arith),
            w.words l k,
          );
      rest = λ u l d i k. ap₂ said
          (get_or-set_other mid (sum_flags + t) (sum_flags + u) 1 0 (λ e. d (omega arith))
          ∙ w.frame.high (sum_flags + u) (omega arith))
          (get_or-set_other mid (sum_flags + t) (u * max_lanes + l) 1 0 (omega arith) ∙ row-away w.frame n u l d k);
    }
  where
    new : List ℕ
    new = set mid (sum_flags + t) 1

    inside : sum_flags + t < length mid
    inside = omega (arith, w.frame.long, r.long)

    flag : get_or (set mid (sum_flags + t) 1) (sum_flags + t) 0 ≡ 1
    flag = get_or-set_same mid (sum_flags + t) 1 0 inside

-- more of them: its row is lowered
pub ways-more : {f : ℕ → ℕ} {t lanes : ℕ} {old new : List ℕ} → SumsRoom old → t < 12 → lanes ≤ max_lanes
    → (get_or old (sum_flags + t) 0 ≡ 0 → ⊥) → LoweredAt f (t * max_lanes) lanes old new
    → WaysAdded f t lanes old new
ways-more {f} {t} {lanes} {old} {new} r h n d w =
    let flag : (u : ℕ) → get_or new (sum_flags + u) 0 ≡ get_or old (sum_flags + u) 0 =
    λ u. w.frame.high (sum_flags + u) (omega arith) in
    record {
      room = record { long = w.frame.long ∙ r.long; low = lowered_at-low w r.low };
      done = λ l k.
          omega (
            arith,
            said-word (get_or new (sum_flags + t) 0) (get_or new (t * max_lanes + l) 0) (λ z. d (sym (flag t) ∙ z)),
            said-word (get_or old (sum_flags + t) 0) (get_or old (t * max_lanes + l) 0) d,
            w.done l k,
          );
      rest = λ u l x i k. ap₂ said (flag u) (row-away w.frame n u l x k);
    }

-- ---- the sums, one after the other

-- rows with the flag 0 are all NONE
pub no_sums : (starts lanes : ℕ) (sums : List ℕ) → NoFlags starts sums → Nones starts lanes sums
no_sums starts lanes sums z = λ t l h g. said-none _ _ (z t h)

module _ (j : Join) (st : List ℕ) (q₀ a : ℕ) where
  -- over no start state at all
  pub sums_cleared : {old new : List ℕ} → SumsRoom old → Written (always 0) sum_flags j.starts old new
      → Sums j st q₀ a 0 0 new
  sums_cleared {new = new} r w =
      record {
        room = record { long = w.frame.long ∙ r.long; low = w.low };
        up_to = λ t l h g k. absurd (omega arith);
        before = λ t l h g k. no_sums j.starts j.lanes new w.words t l h g ∙ sym (lowest-zero _);
      }

  -- one state t more
  pub sums_added : {f : ℕ → ℕ} {old new : List ℕ} (s t : ℕ) → Sums j st q₀ a s t old → j.starts ≤ 12 → t < j.starts
      → WaysAdded f t j.lanes old new → ((l : ℕ) → l < j.lanes → f l ≡ start_sum j.i st q₀ a t l s)
      → Sums j st q₀ a s (t + 1) new
  sums_added {f} {old} {new} s t w few h v e =
      record {
        room = v.room;
        up_to = λ u l i k z. go u l i k z (ℕ_discrete u t);
        before = λ u l i k z. v.rest u l (omega arith) (omega arith) k ∙ w.before u l i k (omega arith);
      }
    where
      go : (u l : ℕ) → u < j.starts → l < j.lanes → u < t + 1 → Dec (u ≡ t)
          → sum_in new u l ≡ lowest B (start_sum j.i st q₀ a u l) (from 0 (s + 1))
      go u l i k z (no x) = v.rest u l x (omega arith) k ∙ w.up_to u l i k (omega arith)
      go u l i k z (yes x) =
          let f = start_sum j.i st q₀ a t l in
          rw x (omega (arith, v.done l k, e l k, w.before t l h k (omega arith), lowest-more f s))

  -- one that has no way from s
  pub sums_passed : {sums : List ℕ} (s t : ℕ) → Sums j st q₀ a s t sums → t < j.starts
      → ((l : ℕ) → l < j.lanes → B ≤ start_sum j.i st q₀ a t l s)
      → Sums j st q₀ a s (t + 1) sums
  sums_passed {sums} s t w h none =
      record {
        room = w.room;
        up_to = λ u l i k z. go u l i k z (ℕ_discrete u t);
        before = λ u l i k z. w.before u l i k (omega arith);
      }
    where
      go : (u l : ℕ) → u < j.starts → l < j.lanes → u < t + 1 → Dec (u ≡ t)
          → sum_in sums u l ≡ lowest B (start_sum j.i st q₀ a u l) (from 0 (s + 1))
      go u l i k z (no x) = w.up_to u l i k (omega arith)
      go u l i k z (yes x) =
          let f = start_sum j.i st q₀ a t l in
          rw x (omega (arith, w.before t l h k (omega arith), lowest-more f s, lowest-low B f (from 0 s), none l k))

  -- one start state more
  pub sums_next : {sums : List ℕ} (s : ℕ) → Sums j st q₀ a s j.starts sums → Sums j st q₀ a (s + 1) 0 sums
  sums_next s w =
      record {
        room = w.room;
        up_to = λ t l h g z. absurd (omega arith);
        before = λ t l h g z. w.up_to t l h g h;
      }

  -- one that has no way
  pub sums_skip : {sums : List ℕ} (s : ℕ) → Sums j st q₀ a s 0 sums
      → ((t l : ℕ) → B ≤ start_sum j.i st q₀ a t l s)
      → Sums j st q₀ a (s + 1) 0 sums
  sums_skip s w none =
      record {
        room = w.room;
        up_to = λ t l h g z. absurd (omega arith);
        before = λ t l h g z.
            let f = start_sum j.i st q₀ a t l in
            omega (arith, w.before t l h g z, lowest-more f s, lowest-low B f (from 0 s), none t l);
      }

  -- the same words are read in another store
  pub summed_ext : {sums : List ℕ} {live : Bool} (new : List ℕ) → AllSummed j st q₀ a sums live
      → ((s t l : ℕ) → s < j.starts → t < j.starts → l < j.lanes
      → start_sum j.i new q₀ a t l s ≡ start_sum j.i st q₀ a t l s)
      → AllSummed j new q₀ a sums live
  summed_ext new w same =
      record {
        all = record {
          room = w.all.room;
          up_to = λ t l h g z. absurd (omega arith);
          before = λ t l h g z. w.all.before t l h g z ∙ sym (lowest-same (start_sum j.i new q₀ a t l)
              (start_sum j.i st q₀ a t l) j.starts (λ s k. ap (λ (x : ℕ). min x B) (same s t l k h g)));
        };
        dead = w.dead;
      }
