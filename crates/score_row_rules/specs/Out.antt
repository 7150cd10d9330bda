-- Rule 6: too far from its place, by arrays of places and by lists.
use Rattle.std.specs.Prelude.{ℕ, zero, suc, ◌≤◌, ◌<◌, ◌≡◌, refl, Bool, ◌&&◌, List, [], ◌∷◌, length, get_or, drop, replicate, ltb}
use Rattle.std.specs.Int.{abs_diff}
use Rattle.std.proofs.Common.{ap, ap₂, ◌∙◌, arith, drop_of_length-le}
use Rattle.std.proofs.lemmas.List.{get_or-replicate}
use Rattle.lists.specs.Compare.{above}
use Rattle.definition.specs.Job.{max_cells}
use Rattle.definition.specs.Rules.{apart, place_in}
use Rattle.job.specs.Parts.{stands_in}
use Rattle.score_order.specs.declared.Stand.{Stand}
use Rattle.score_order.specs.Words.{row_in, PlacesFrom, Below}
use Rattle.score_row_rules.specs.Tests.{out_by, out_in}

-- by places in arrays
pub out-placed : (stands : List Stand) (row limit : ℕ) (order cells place rank : List ℕ) (k : ℕ) → k < max_cells
    → PlacesFrom 0 order place → PlacesFrom 0 cells rank → (t : Bool)
    → t ≡ (stands_in row (row_in stands k) && ltb limit (abs_diff (get_or place k 0) (get_or rank k 0)))
    → t ≡ out_in stands row limit order cells k
unfolding out_by out_in
out-placed stands row limit order cells place rank k h p q t e =
    let f : get_or place k 0 ≡ place_in k order = omega (arith, p.at_place k h) in
    let g : get_or rank k 0 ≡ place_in k cells = omega (arith, q.at_place k h) in
    let a : ℕ = apart (place_in k order) (place_in k cells) in
    e
    ∙ ap₂ (λ x y. stands_in row (row_in stands k) && ltb limit (abs_diff x y)) f g
    ∙ ap (λ x. stands_in row (row_in stands k) && x) (above a limit)

-- the places of no cell, counted on from a list's end
pub none-placed : (l : List ℕ) → PlacesFrom (length l) (drop (length l) l) (replicate max_cells (length l))
unfolding place_in
none-placed l = record {
  long = refl;
  at_place = λ k h. let e = get_or-replicate max_cells k (length l) 0 h in
      rw (drop_of_length-le l {i = length l} (omega arith)) (omega arith);
}

-- cells that are below n are cells
pub cells-low : (n : ℕ) (l : List ℕ) → n ≤ max_cells → Below n l → (i : ℕ) → get_or l i 0 < max_cells
cells-low n [] h b i = omega arith
cells-low n (x ∷ l) h b zero = omega (arith, b.0)
cells-low n (x ∷ l) h b (suc i) = cells-low n l h b.1 i
