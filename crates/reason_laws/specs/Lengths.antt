-- How long a sentence is: at most 726 bytes, so it fits where 11 is not given.
use Rattle.std.specs.Prelude.{ℕ, zero, suc, ◌+◌, ◌*◌, ◌≤◌, Bool, true, false, cond, List, [], ◌∷◌, ◌++◌, map, length, eqb}
use Rattle.std.proofs.Common.{arith, length-append}
use Rattle.definition.specs.Texts.{bytes, parted}
use Rattle.definition.specs.Job.{max_cells}
use Rattle.definition.specs.Reasons.{Reason, phrase_of, cell_named, cells_named, sentence}
use Rattle.definition.specs.Reasons.{CellsRise, IsReason, reasons_room}
use Rattle.text_laws.specs.Numbers.{four-long}

-- cells that rise are no more than a job may have
rising-few : (a : ℕ) (cells : List ℕ) → a ≤ suc max_cells → CellsRise a cells → a + length cells ≤ suc max_cells
rising-few a [] h r = omega arith
rising-few a (c ∷ cs) h r =
    let low = r.0 in
    let high = r.1 in
    let more = rising-few (suc c) cs (omega arith) r.2 in
    omega arith

-- a cell's name, and what parts it from the next
abbrev cell_bytes : ℕ
cell_bytes = 11

named-long : (n : ℕ) → n ≤ max_cells → length (cell_named n) + 2 ≤ cell_bytes
unfolding bytes
named-long n h = omega (arith, four-long n (omega arith))

cells-long : (a : ℕ) (cells : List ℕ) → CellsRise a cells → length (cells_named cells) ≤ cell_bytes * length cells
unfolding cells_named bytes
cells-long a [] r = omega arith
cells-long a (c ∷ []) r = omega (arith, named-long c r.1)
cells-long a (c ∷ d ∷ cs) r =
    let more = cells-long (suc c) (d ∷ cs) r.2 in
    let long = length-append (cell_named c) (bytes ", " ++ parted (bytes ", ") (map cell_named (d ∷ cs))) in
    omega (arith, named-long c r.1)

-- the longest phrase has 19 bytes
phrase_long : (rule : ℕ) → length (phrase_of rule) ≤ 19
unfolding bytes
phrase_long zero = omega arith
phrase_long (suc zero) = omega arith
phrase_long (suc (suc zero)) = omega arith
phrase_long (suc (suc (suc zero))) = omega arith
phrase_long (suc (suc (suc (suc zero)))) = omega arith
phrase_long (suc (suc (suc (suc (suc zero))))) = omega arith
phrase_long (suc (suc (suc (suc (suc (suc zero)))))) = omega arith
phrase_long (suc (suc (suc (suc (suc (suc (suc zero))))))) = omega arith
phrase_long (suc (suc (suc (suc (suc (suc (suc (suc zero)))))))) = omega arith
phrase_long (suc (suc (suc (suc (suc (suc (suc (suc (suc r))))))))) = omega arith

pub sentence-short : (r : Reason) → IsReason r → length (sentence r) ≤ reasons_room
unfolding sentence bytes
sentence-short r h =
    let few = rising-few 1 r.cells (omega arith) h.rising in
    let cells = cells-long 1 r.cells h.rising in
    let phrase = phrase_long r.rule in
    let dot = length-append (cells_named r.cells) (bytes ".") in
    let long = length-append (phrase_of r.rule) (bytes ": " ++ (cells_named r.cells ++ bytes ".")) in
    go (eqb r.rule 0) (omega arith)
  where
    go : (t : Bool)
        → length (phrase_of r.rule ++ (bytes ": " ++ (cells_named r.cells ++ bytes "."))) ≤ reasons_room
        → length (cond t (bytes "legal.") (phrase_of r.rule ++ (bytes ": " ++ (cells_named r.cells ++ bytes "."))))
        ≤ reasons_room
    go true l = omega arith
    go false l = l
