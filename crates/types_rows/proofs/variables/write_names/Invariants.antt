use Prim.Native.Nat.{◌≤◌}
use Rattle.types_rows.proofs.Environments.{Naming}
use Rattle.types_rows.proofs.variables.write_names.Given as goal

abbrev pub invariant-loop-j : goal.invariant-loop-j
invariant-loop-j l = Naming l.envs l.e l.f l.initial.names l.names l.x l.k l.j × (l.x ≤ 65535) × (l.k ≤ l.j)
