-- The operands, as the functions are lent them, and the least fault of what operands and instructions name, as the functions find it.
use Rattle.std.specs.Prelude.{ℕ, Option, Some, None, cond, List, eqb, ltb}
use Rattle.syntax.specs.Syntax.{Operand}
use Rattle.syntax.proofs.Least.{least}
use Rattle.types.specs.Rows.{operands_refs, labels, all_below}
use Rattle.tables.specs.Tables.{OperandTable}
use Rattle.types_pass_two.specs.row_refs.Least.{refs_least}

-- the operands, as the functions are lent them
abbrev pub operand_table : List ℕ → List ℕ → List ℕ → OperandTable
operand_table operands numbers args = record { operands = operands; numbers = numbers; args = args }

-- the label of a base: its kind is 2 for a label
abbrev pub label_least : ℕ → ℕ → ℕ → ℕ
label_least nb k l = cond (ltb k 2) 0 (cond (ltb l nb) 0 4)

-- the least fault of what operands name, their labels below nb
unfoldable pub operands_least : List ℕ → ℕ → ℕ → List Operand → ℕ
operands_least rs n nb vs = least (cond (all_below nb (labels vs)) 0 4) (refs_least rs n (operands_refs vs))

-- which entry of an instruction with the code k is its row t (add to unpack; one past the last counts as halt)
abbrev pub given_place : ℕ → Option ℕ
given_place k =
    cond (eqb k 12) (Some 2)
    (cond (eqb k 13) (Some 2)
    (cond (eqb k 20) (Some 4)
    (cond (eqb k 22) (Some 1)
    (cond (ltb k 24) None (Some 1)))))

-- how many operands an instruction with the code k has, if it says m
abbrev pub count_of : ℕ → ℕ → ℕ
count_of k m =
    cond (ltb k 10) 1
    (cond (eqb k 12) m
    (cond (eqb k 21) 1
    (cond (eqb k 23) 1 0)))
