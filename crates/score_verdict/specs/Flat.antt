-- The rules by how the cells stand are the definition's.
use Rattle.std.specs.Prelude.{ℕ, ◌-◌, ◌≡◌, ◌&&◌, ◌||◌, List, leb}
use Rattle.std.proofs.Common.{sym}
use Rattle.std.proofs.Math.Path.{ap}
use Rattle.std.proofs.Math.Bool.{not}
use Rattle.std.proofs.Math.Dec.{ltb, eqb}
use Rattle.definition.specs.Lists.{from, any, any_next}
use Rattle.definition.specs.Job as paper
use Rattle.definition.specs.Job.{both_rows}
use Rattle.definition.specs.Placement as text
use Rattle.definition.specs.Rules.{apart, place_in, is_forbidden, is_first, is_last}
use Rattle.definition.specs.Rules.{beside_one_site, out_of_place, at_one_site_end}
use Rattle.definition.specs.Rules.{breaks2, breaks4, breaks5, breaks6, breaks7, breaks8}
use Rattle.job.specs.Parts.{stands_in}
use Rattle.score_order.specs.Words.{row_in_file, order_in}
use Rattle.score_order.specs.declared.Stand.{Stand}
use Rattle.score_words.specs.Flat.{Flat}
use Rattle.score_words.specs.Rows.{flat-cells, flat-order}
use Rattle.score_cell_rules.specs.Tests.{past_in, share_in, clash_in, clashes_in, wrong_in, passes_in}
use Rattle.score_row_rules.specs.Tests.{near_in, near_any, out_by, out_in, out_any, at_end_in, at_end_any}

module _ {j : paper.Job} {P : text.Placement} {stands : List Stand} (f : Flat j P stands) where
  pub flat2 : (k : ℕ) → past_in stands j.header.sites k ≡ breaks2 j P k
  unfolding past_in breaks2
  flat2 k = ap (λ x. not (leb x j.header.sites)) (f.shows k).end

  pub flat4 : (k : ℕ) → clashes_in stands k ≡ breaks4 j P k
  unfolding share_in clash_in clashes_in breaks4
  flat4 k =
      λ i. any
      (λ b. not (eqb b k)
      && (any (λ row. stands_in row ((f.shows k).row i) && stands_in row ((f.shows b).row i)) both_rows
      && ltb ((f.shows k).site i) ((f.shows b).end i)
      && ltb ((f.shows b).site i) ((f.shows k).end i))) (from 0 (sym f.count i))

  -- a row, rules 5, 6 and 8
  near-row : (row k : ℕ) → near_in stands (order_in stands row) k ≡ beside_one_site j P row k
  unfolding near_in beside_one_site
  near-row row k =
      λ i. any_next (λ a b. (eqb k a || eqb k b) && is_forbidden ((f.shows b).site i - (f.shows a).end i))
      (flat-order f row i)

  out-row : (row k : ℕ)
      → out_in stands row j.header.reordering (order_in stands row) (row_in_file stands row) k ≡ out_of_place j P row k
  unfolding out_by out_in out_of_place
  out-row row k =
      λ i. stands_in row ((f.shows k).row i)
      && not (leb (apart (place_in k (flat-order f row i)) (place_in k (flat-cells f row i))) j.header.reordering)

  end_row : (row k : ℕ) → at_end_in stands j.header.sites (order_in stands row) k ≡ at_one_site_end j P row k
  unfolding at_end_in at_one_site_end
  end_row row k =
      λ i. (is_first k (flat-order f row i) && is_forbidden ((f.shows k).site i))
      || (is_last k (flat-order f row i) && is_forbidden (j.header.sites - (f.shows k).end i))

  pub flat5 : (k : ℕ) → near_any stands k ≡ breaks5 j P k
  unfolding near_any breaks5
  flat5 k = λ i. any (λ row. near-row row k i) both_rows

  pub flat6 : (k : ℕ) → out_any stands j.header.reordering k ≡ breaks6 j P k
  unfolding out_any breaks6
  flat6 k = λ i. any (λ row. out-row row k i) both_rows

  pub flat7 : (k : ℕ) → passes_in stands k ≡ breaks7 j P k
  unfolding wrong_in passes_in breaks7
  flat7 k =
      λ i. eqb ((f.shows k).row i) 2
      && any
      (λ b. eqb ((f.shows b).row i) 2
      && ((ltb b k && ltb ((f.shows k).site i) ((f.shows b).site i))
      || (ltb k b && ltb ((f.shows b).site i) ((f.shows k).site i)))) (from 0 (sym f.count i))

  pub flat8 : (k : ℕ) → at_end_any stands j.header.sites k ≡ breaks8 j P k
  unfolding at_end_any breaks8
  flat8 k = λ i. any (λ row. end_row row k i) both_rows
