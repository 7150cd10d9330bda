-- `results::Fields::push` meets its contract: the value is put behind the fields that count, and counts too.
use Prim.Native.Nat.{◌+◌}
use mathlib.Core.Path.{◌≡◌, refl, ap, ◌∙◌}
use mathlib.Core.List.{List}
use native.Mathlib.Omega.{arith}
use native.Mathlib.Numerals.{add-one}
use lib.ListN.{length, take, set}
use lib.Seq.{take-suc-set}
use lib.IntN.{ℤ}
use mir.Facts.{to_z-of_z}
use Rattle.results.specs.Fields.{max_fields, list_of}
use borrow.Author.Rules.{rules}
use Rattle.results.proofs.Fields.push.Goals as goal

pub returns : goal.returns
unfolding list_of
returns c =
    let n = c.args.self.count in
    let long : length c.args.self.values ≡ max_fields = search rules in
    let more : ℤ → List ℤ = λ z. take (n + 1) (set c.args.self.values n z) in
    record {
      list =
          ap more (to_z-of_z c.ranges.value)
          ∙ ap (λ k. take k (set c.args.self.values n c.args.value)) (add-one n)
          ∙ take-suc-set c.args.self.values n c.args.value (omega arith);
      count = refl;
    }
