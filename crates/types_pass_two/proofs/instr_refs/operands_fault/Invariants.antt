use Prim.Native.Nat.{◌+◌, ◌-◌}
use mathlib.Core.Path.{◌≡◌}
use Rattle.syntax.proofs.Least.{least}
use Rattle.faults.specs.Numbers.{fault_number}
use Rattle.tables.specs.Tables.{operands_at}
use Rattle.types_pass_two.specs.instr_refs.Instrs.{operand_table, operands_least}
use Rattle.types_pass_two.proofs.instr_refs.operands_fault.Given as goal

abbrev pub invariant-loop-i : goal.invariant-loop-i
invariant-loop-i l =
    least (fault_number l.f) (operands_least l.rows l.n l.nb (operands_at (operand_table l.operands l.numbers l.args) (l.v + l.i) (l.m - l.i))) ≡ operands_least l.rows l.n l.nb (operands_at (operand_table l.operands l.numbers l.args) l.v l.m)
