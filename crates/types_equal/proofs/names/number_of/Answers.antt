use Rattle.std.proofs.Common.{ℕ, ◌≤◌, ◌+◌}
use Rattle.types_equal.specs.names.Names.{Stands}
use native.Mathlib.Omega.{arith}
use mathlib.Core.Path.{refl}
use Rattle.types_equal.proofs.names.Names.{if_written, stands_even, stands_odd}
use Rattle.types_equal.proofs.names.number_of.Goals as goal

pub returns-then-e-eq0 : goal.returns-then-e-eq0
returns-then-e-eq0 c =
    let p = c.requires in
    let i = c.variable.ensures.1 in
    ((omega arith, stands_even _ c.args.names.now _ _ c.variable.result (search) c.variable.ensures.0 (omega arith)), λ i _. refl)

pub returns-else-e-eq0 : goal.returns-else-e-eq0
returns-else-e-eq0 c =
    let p = c.requires in
    (if_written (λ (a : ℕ). (a ≤ 131072) × Stands c.args.envs.now c.args.e c.write_names.new.names (c.args.f + 65) a) _ c.then_some.ensures (λ t. (omega arith, stands_odd _ _ _ _ (c.write_names.ensures.0 t))), c.write_names.ensures.1)
