use mathlib.Core.Path.{ap, sym, ◌∙◌}
use Prim.Native.Nat.{◌+◌}
use native.Mathlib.Omega.{arith}
use Rattle.types_rows.proofs.Environments.{var_even, var_step, var_zero}
use Rattle.types_rows.proofs.variables.variable.Goals as goal

pub returns-then-k-eq0 : goal.returns-then-k-eq0
returns-then-k-eq0 c =
    let i = c.loop-x.invariant.2 in
    (c.saturating_sub.ensures ∙ var_zero _ _ _ (search) ∙ c.loop-x.invariant.0, omega arith)

pub loop-x-preserved : goal.loop-x-preserved
loop-x-preserved c =
    (var_step _ _ _ (search) (search) c.at-x.ensures.0 ∙ c.loop-x.invariant.0, let v = c.at-x.ensures.1 in omega arith, let i = c.loop-x.invariant.2 in omega arith)

pub returns : goal.returns
returns c =
    let i = c.loop-x.invariant.2 in
    (ap (λ z. c.loop-x.k + z) c.saturating_sub-2.ensures ∙ sym (var_even _ _ _ (search)) ∙ c.loop-x.invariant.0, omega arith)
