use Prim.Native.Nat.{ℕ}
use mathlib.Core.Path.{◌≡◌}
use mathlib.Core.List.{List}
use Rattle.tables.specs.Tables.{rows_in}
use Rattle.types_rows.specs.Read.{tab}
use Rattle.types_pass_two.specs.instr_refs.Instrs.{operand_table}
use Rattle.types_pass_two.proofs.refs.Lines.{instrs_left}
use Rattle.types_pass_two.proofs.refs.instrs_fault.Given as goal

abbrev pub invariant-loop-i : goal.invariant-loop-i
invariant-loop-i l =
    (ps : List ℕ) → instrs_left (rows_in (tab l.rows ps) l.n) l.nb l.instrs (operand_table l.operands l.numbers l.args) l.e l.base l.i ≡ instrs_left (rows_in (tab l.rows ps) l.n) l.nb l.instrs (operand_table l.operands l.numbers l.args) l.e l.base l.j
