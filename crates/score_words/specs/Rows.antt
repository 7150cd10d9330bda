-- How the cells of a placed job stand, as functions of the cell, and the rows that they give.
use Prim.Native.Nat.{ℕ}
use Rattle.std.specs.Prelude.{◌≡◌, List}
use Rattle.std.proofs.Common.{sym}
use Rattle.std.proofs.Math.Path.{ap₂, fun_ext}
use Rattle.definition.specs.Lists.{from, keep}
use Rattle.definition.specs.Job as paper
use Rattle.definition.specs.Placement as text
use Rattle.definition.specs.Rules.{cell_at, site_at, row_cells, sort, order}
use Rattle.score_order.specs.declared.Stand.{Stand}
use Rattle.score_order.specs.Words.{site_in, row_in, cells_in, row_in_file, order_in}
use Rattle.score_words.specs.Flat.{Flat}
use Rattle.job.specs.Parts.{stands_in}

module _ {j : paper.Job} {P : text.Placement} {stands : List Stand} (f : Flat j P stands) where
  pub flat-site : site_in stands ≡ site_at P
  flat-site = fun_ext (λ k. (f.shows k).site)

  pub flat-row : row_in stands ≡ (λ k. (cell_at j k).row)
  flat-row = fun_ext (λ k. (f.shows k).row)

  pub flat-cells : (row : ℕ) → row_in_file stands row ≡ row_cells j row
  unfolding cells_in
  flat-cells row = ap₂ (λ (g : ℕ → ℕ) m. keep (λ k. stands_in row (g k)) (from 0 m)) flat-row (sym f.count)

  pub flat-order : (row : ℕ) → order_in stands row ≡ order j P row
  unfolding order
  flat-order row = ap₂ sort flat-site (flat-cells row)
