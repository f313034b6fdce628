use Rattle.std.proofs.Common.{◌≡◌, ◌+◌, ◌-◌}
use Rattle.exec.specs.Machine.{puts}
use Rattle.exec_words.specs.memory.Lent.{lent, operand_table}
use Rattle.exec_words.proofs.memory.Puts.{components}
use Rattle.exec_words.proofs.memory.write_tuple.Given as goal

abbrev pub invariant-loop-i : goal.invariant-loop-i
invariant-loop-i l =
    puts (lent l.kinds l.numbers) (l.i + 1) (components (operand_table l.operands l.bases) (lent l.rk l.rn) (l.v + l.i) (l.n - l.i)) ≡ puts (lent l.initial.kinds l.initial.numbers) (0 + 1) (components (operand_table l.operands l.bases) (lent l.rk l.rn) (l.v + 0) (l.n - 0))
