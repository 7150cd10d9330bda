-- The row's first cell is marked or not, and then its last.
use Rattle.std.proofs.Common.{arith, rules, tests, ℕ, ◌-◌, ◌<◌, ◌≡◌, suc, refl, List, length, get_or, length-set}
use Rattle.definition.specs.Rules.{is_forbidden}
use Rattle.score_order.specs.Words.{Below}
use Rattle.score_order.specs.Below.{below_at}
use Rattle.score_cell_rules.specs.Marks.{added_none}
use Rattle.score_row_rules.specs.Ends.{end_none, ends-marked, cell-marked}
use Rattle.score_row_rules.proofs.mark_row_ends.Goals as goal

pub returns-then-is_empty : goal.returns-then-is_empty
returns-then-is_empty c =
    let none : length c.args.order.now ≡ 0 = search (rules, tests) in
    added_none _ c.args.marks.now (λ k _. end_none c.args.stands.now c.args.order.now c.args.sites k none)

-- the row's first cell, and its last
low : (n : ℕ) (l : List ℕ) (k : ℕ) → length l ≡ suc k → Below n l → (get_or l 0 0 < n) × (get_or l k 0 < n)
low n l k e b = (below_at n l 0 b (omega arith), below_at n l k b (omega arith))

pub bounds-stands-first : goal.bounds-stands-first
bounds-stands-first c =
    let some : length c.args.order.now ≡ suc (length c.args.order.now - 1) = search (rules, tests) in
    (low _ c.args.order.now _ some c.requires.cells).0

pub bounds-stands-last : goal.bounds-stands-last
bounds-stands-last c =
    let some : length c.args.order.now ≡ suc (length c.args.order.now - 1) = search (rules, tests) in
    (low _ c.args.order.now _ some c.requires.cells).1

pub bounds-marks-last : goal.bounds-marks-last
bounds-marks-last c =
    let some : length c.args.order.now ≡ suc (length c.args.order.now - 1) = search (rules, tests) in
    simp length-set (omega (arith, c.requires.marks, (low _ c.args.order.now _ some c.requires.cells).1))

pub bounds-marks-last-2 : goal.bounds-marks-last-2
bounds-marks-last-2 c =
    let some : length c.args.order.now ≡ suc (length c.args.order.now - 1) = search (rules, tests) in
    simp length-set (omega (arith, c.requires.marks, (low _ c.args.order.now _ some c.requires.cells).1))

pub returns : goal.returns
returns c =
    let s = c.args.stands.now in
    let l = c.args.order.now in
    let m = c.args.marks.now in
    let some : length l ≡ suc (length l - 1) = search (rules, tests) in
    let a : ℕ = get_or l 0 0 in
    let b : ℕ = get_or l (length l - 1) 0 in
    let there = low (length s) l (length l - 1) some c.requires.cells in
    let first = cell-marked a (is_forbidden c.gap_between-before.result) m (omega (arith, c.requires.marks, there.0)) in
    let last = cell-marked b (is_forbidden c.gap_between-after.result) _ (omega (arith, c.requires.marks, first.long, there.1)) in
    ends-marked s l c.args.sites a b (length l - 1) some refl refl
    c.gap_between-before.result c.gap_between-after.result m _ _ (omega (arith, c.gap_between-before.ensures)) c.gap_between-after.ensures first last
