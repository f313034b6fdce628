use Prim.Native.Nat.{◌+◌, ◌-◌}
use mathlib.Core.Path.{◌≡◌}
use Rattle.syntax.proofs.Least.{least}
use Rattle.faults.specs.Numbers.{fault_number}
use Rattle.tables.specs.Tables.{span}
use Rattle.types_pass_two.specs.row_refs.Least.{refs_least, list_refs}
use Rattle.types_pass_two.proofs.row_refs.list_fault.Given as goal

abbrev pub invariant-loop-i : goal.invariant-loop-i
invariant-loop-i l =
    least (fault_number l.f) (refs_least l.rows l.n (list_refs l.part (span l.s (l.p + l.i) (l.m - l.i)))) ≡ refs_least l.rows l.n (list_refs l.part (span l.s l.p l.m))
