use Rattle.std.proofs.Common.{ℕ, ◌+◌, ◌-◌, ◌≤◌, ◌≡◌, List, length, arith}
use Rattle.std.proofs.lemmas.Grind.{common_steps}
use borrow.Rule.Slice.PartMut.{put_mid}
use Rattle.search_lanes.specs.Store.{Low, Written}
use Rattle.search_row_fill.specs.Ready.{word_in}
use Rattle.search_row_fill.proofs.put_talls.Goals as goal

written-part : (at n : ℕ) (row part : List ℕ) → at + n ≤ length row → length part ≡ n → Low row → Low part
    → Written (word_in part) at n row (put_mid at n row part)
written-part at n row part r e l p = record {
  frame = record {
    long = grind (arith, common_steps);
    low = grind (arith, common_steps);
    high = grind (arith, common_steps);
  };
  words = grind (arith, common_steps);
  low = record { word = λ k. grind (arith, common_steps, p.word (k - at), l.word k) };
}

pub returns : goal.returns
returns c =
    let low : Low c.args.places.now = record { word = λ k. omega (arith, c.requires.small k) } in
    rw c.copy_from_slice.ensures.after
    (written-part _ 32 c.args.row.now c.args.places.now c.requires.long c.requires.all c.requires.low low)
