use mathlib.Core.Path.{◌≡◌}
use Prim.Native.Nat.{◌≤◌, ◌+◌, ◌-◌}
use Rattle.valid_scope.specs.variables.Uses.{parts_at, parts_use}
use Rattle.valid_scope.proofs.variables.parts_use.Given as goal

abbrev pub invariant-loop-i : goal.invariant-loop-i
invariant-loop-i l =
    (l.i ≤ l.n) × (l.u ≡ parts_use l.uses l.k (parts_at l.parts (l.p + l.i) (l.n - l.i) l.off))
