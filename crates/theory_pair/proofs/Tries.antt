-- The definitions, run on small jobs.
use Rattle.std.specs.Prelude.{◌≡◌, refl, List, [], ◌∷◌, Bool, true, not, ℕ, eqb}
use Rattle.std.proofs.Math.Option.{Option, none, some}
use Rattle.std.proofs.Math.Decide.{ℕ_discrete, dec_le, dec_lt}
use lib.ListN.{get_or}
use Rattle.std.specs.Int.Count.{ones}
use Rattle.lists.specs.Numbers.{from}
use Rattle.theory_row.specs.Order.{sort, put, place}
use Rattle.theory_row.specs.Cheapest.{lower}
use Rattle.theory_row.specs.Marks.{bit}
use Rattle.theory_row.specs.Window.{start, step}
use Rattle.theory_row.specs.Arranged.{may?}
use Rattle.theory_pair.specs.Forward.{each, add, cost_if, least_of, layer}
use Rattle.theory_pair.specs.Pick.{pick, good_marks}
use Rattle.theory_pair.specs.Segment.{both?, not?, fitsTo?, ends_with?, into?, move, if_single, singles, least}
use Rattle.theory_pair.specs.Pair.{spots, cases, stage_least, table, ending}
use Rattle.theory_pair.specs.Cells.{row₀, row₁, Kind, one, both, PairJob}
use Rattle.theory_pair.specs.Cells.{members, tall_cells, line, pos, tall_count}

-- cells one site wide at a site, with a cost, in rows whose ends are as given
abbrev pub job_ended : (ℕ → Bool) → (ℕ → Bool) → List Kind → List (List ℕ) → PairJob ℕ
job_ended opens closes ks os = record {
  count = lib.ListN.length ks;
  kind = λ k. get_or ks k both;
  offers = λ k. get_or os k [];
  wide = λ k a. 1;
  own = λ k a. a;
  pay = λ s x y. 0;
  opens = λ k a. opens a;
  closes = λ k a. closes a;
}

-- in rows whose ends are free
abbrev pub job : List Kind → List (List ℕ) → PairJob ℕ
job ks os = job_ended (λ a. true) (λ a. true) ks os

abbrev run : ℕ → PairJob ℕ → Option ℕ
run R J = table R (λ a. a) (line J row₀) (line J row₁) (pos J row₀) (pos J row₁) (tall_count J)
    (ending R (λ a. a) (line J row₀) (line J row₁) (pos J row₀) (pos J row₁))

-- no cells
no_cells_lem : run 1 (job [] []) ≡ some 0
unfolding start step may? bit lower from each add cost_if least_of layer pick good_marks both? not? fitsTo? ends_with? into?
    move if_single singles least spots cases stage_least table members tall_cells sort put place ones
    ℕ_discrete dec_le dec_lt
no_cells_lem = refl

-- two single cells, exchanged: with R 1, not with R 0; and not if tall
exchanged : run 1 (job (one row₀ ∷ one row₀ ∷ []) ((1 ∷ []) ∷ (0 ∷ []) ∷ [])) ≡ some 1
unfolding start step may? bit lower from each add cost_if least_of layer pick good_marks both? not? fitsTo? ends_with? into?
    move if_single singles least spots cases stage_least table members tall_cells sort put place ones
    ℕ_discrete dec_le dec_lt
exchanged = refl

exchanged_0 : run 0 (job (one row₀ ∷ one row₀ ∷ []) ((1 ∷ []) ∷ (0 ∷ []) ∷ [])) ≡ none
unfolding start step may? bit lower from each add cost_if least_of layer pick good_marks both? not? fitsTo? ends_with? into?
    move if_single singles least spots cases stage_least table members tall_cells sort put place ones
    ℕ_discrete dec_le dec_lt
exchanged_0 = refl

exchanged-tall : run 1 (job (both ∷ both ∷ []) ((1 ∷ []) ∷ (0 ∷ []) ∷ [])) ≡ none
unfolding start step may? bit lower from each add cost_if least_of layer pick good_marks both? not? fitsTo? ends_with? into?
    move if_single singles least spots cases stage_least table members tall_cells sort put place ones
    ℕ_discrete dec_le dec_lt
exchanged-tall = refl

-- two tall cells side by side; with a gap of one; overlapping
kept-tall : run 1 (job (both ∷ both ∷ []) ((0 ∷ []) ∷ (1 ∷ []) ∷ [])) ≡ some 1
unfolding start step may? bit lower from each add cost_if least_of layer pick good_marks both? not? fitsTo? ends_with? into?
    move if_single singles least spots cases stage_least table members tall_cells sort put place ones
    ℕ_discrete dec_le dec_lt
kept-tall = refl

gap-tall : run 1 (job (both ∷ both ∷ []) ((0 ∷ []) ∷ (2 ∷ []) ∷ [])) ≡ none
unfolding start step may? bit lower from each add cost_if least_of layer pick good_marks both? not? fitsTo? ends_with? into?
    move if_single singles least spots cases stage_least table members tall_cells sort put place ones
    ℕ_discrete dec_le dec_lt
gap-tall = refl

clash-tall : run 1 (job (both ∷ both ∷ []) ((1 ∷ []) ∷ (1 ∷ []) ∷ [])) ≡ none
unfolding start step may? bit lower from each add cost_if least_of layer pick good_marks both? not? fitsTo? ends_with? into?
    move if_single singles least spots cases stage_least table members tall_cells sort put place ones
    ℕ_discrete dec_le dec_lt
clash-tall = refl

-- row 0: cell 0, then the tall cell 1; row 1: the tall cell 1, then cell 2, which may go left of it only with R 1
coupled : run 1 (job (one row₀ ∷ both ∷ one row₁ ∷ []) ((0 ∷ 1 ∷ []) ∷ (1 ∷ 2 ∷ 3 ∷ []) ∷ (0 ∷ 3 ∷ []) ∷ [])) ≡ some 1
unfolding start step may? bit lower from each add cost_if least_of layer pick good_marks both? not? fitsTo? ends_with? into?
    move if_single singles least spots cases stage_least table members tall_cells sort put place ones
    ℕ_discrete dec_le dec_lt
coupled = refl

coupled_0 : run 0 (job (one row₀ ∷ both ∷ one row₁ ∷ []) ((0 ∷ 1 ∷ []) ∷ (1 ∷ 2 ∷ 3 ∷ []) ∷ (0 ∷ 3 ∷ []) ∷ [])) ≡ some 6
unfolding start step may? bit lower from each add cost_if least_of layer pick good_marks both? not? fitsTo? ends_with? into?
    move if_single singles least spots cases stage_least table members tall_cells sort put place ones
    ℕ_discrete dec_le dec_lt
coupled_0 = refl

-- no cell may stand first at site 1, or last at site 3: dearer for two cells of a row;
-- impossible for a tall cell that is alone in row 1
capped_0 : run 1 (job_ended (λ a. not (eqb a 1)) (λ a. not (eqb a 3)) (one row₀ ∷ one row₀ ∷ [])
    ((1 ∷ 2 ∷ []) ∷ (3 ∷ 4 ∷ 5 ∷ []) ∷ [])) ≡ some 7
unfolding start step may? bit lower from each add cost_if least_of layer pick good_marks both? not? fitsTo? ends_with? into?
    move if_single singles least spots cases stage_least table members tall_cells sort put place ones
    ℕ_discrete dec_le dec_lt
capped_0 = refl

capped-tall : run 1 (job_ended (λ a. not (eqb a 1)) (λ a. not (eqb a 3)) (both ∷ one row₀ ∷ [])
    ((1 ∷ 3 ∷ []) ∷ (2 ∷ 4 ∷ []) ∷ [])) ≡ none
unfolding start step may? bit lower from each add cost_if least_of layer pick good_marks both? not? fitsTo? ends_with? into?
    move if_single singles least spots cases stage_least table members tall_cells sort put place ones
    ℕ_discrete dec_le dec_lt
capped-tall = refl
