use mathlib.Core.Path.{◌≡◌}
use Prim.Native.Nat.{◌≤◌}
use Rattle.types_rows.specs.Environments.{var_in}
use Rattle.types_rows.proofs.variables.variable.Given as goal

abbrev pub invariant-loop-x : goal.invariant-loop-x
invariant-loop-x l = (var_in l.envs l.x l.k ≡ var_in l.envs l.e l.j) × (l.x ≤ 131072) × (l.k ≤ l.j)

abbrev pub decreases-loop-x : goal.decreases-loop-x
decreases-loop-x l = l.k
