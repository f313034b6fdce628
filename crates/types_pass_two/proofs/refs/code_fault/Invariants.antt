use Prim.Native.Nat.{ℕ, ◌+◌}
use mathlib.Core.Path.{◌≡◌}
use mathlib.Core.List.{List}
use Rattle.syntax.specs.Fault.{lowest_line}
use Rattle.tables.specs.Tables.{rows_in}
use Rattle.types_rows.specs.Read.{tab}
use Rattle.types_pass_two.specs.instr_refs.Instrs.{operand_table}
use Rattle.types_pass_two.specs.refs.Refs.{code_faults}
use Rattle.types_pass_two.proofs.refs.Lines.{blocks_left}
use Rattle.types_pass_two.proofs.refs.code_fault.Given as goal

abbrev pub invariant-loop-b : goal.invariant-loop-b
invariant-loop-b l =
    (ps : List ℕ) → blocks_left (rows_in (tab l.rows ps) l.n) l.nb l.blocks l.instrs (operand_table l.operands l.numbers l.args) l.ni l.n l.b
    ≡ lowest_line (l.n + 1) (code_faults (tab l.rows ps) l.n l.blocks l.nb l.instrs l.ni (operand_table l.operands l.numbers l.args))
