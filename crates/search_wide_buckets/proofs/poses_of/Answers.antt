-- The bits that the words after the first site have in common make up B only if none of them is less.
use Rattle.std.proofs.Common.{ℕ, ◌≡◌, ◌+◌, ◌*◌, ◌-◌, get_or, ap, arith}
use Rattle.search_row.specs.Words.{cell_words, word_of}
use Rattle.search_wide_buckets.proofs.poses_of.Goals as goal

pub returns-then-common-ge-NONE : goal.returns-then-common-ge-NONE
returns-then-common-ge-NONE c =
    record {
      most = omega arith;
      none = λ b p q.
          let z : get_or c.args.row.now (c.args.k * cell_words + 4 + (b - 4)) 0 ≡ word_of c.args.row.now c.args.k b =
          ap (λ (i : ℕ). get_or c.args.row.now i 0) (omega arith) in
          omega (arith, c.common.ensures (b - 4) (omega arith));
    }
