use mathlib.Core.Path.{◌≡◌}
use mathlib.Core.List.{map}
use Prim.Native.Nat.{◌+◌}
use Rattle.exec.specs.Machine.{puts, integer}
use Rattle.exec_words.specs.memory.Lent.{lent}
use Rattle.exec_state.proofs.start.Laws.{left_from}
use Rattle.exec_state.proofs.start.set_tuple.Given as goal

abbrev pub invariant-loop-i : goal.invariant-loop-i
invariant-loop-i l = puts (lent l.hk l.hn) (l.i + 1) (left_from l.samples l.i) ≡ puts (lent l.initial.hk l.initial.hn) 1 (map integer l.samples)
