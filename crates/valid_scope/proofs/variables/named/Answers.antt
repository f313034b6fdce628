use native.Mathlib.Omega.{arith}
use mathlib.Core.Path.{ap}
use Prim.Native.Nat.{ℕ, ◌+◌}
use Rattle.valid_scope.proofs.variables.Laws.{named_by, named_low}
use Rattle.valid_scope.proofs.variables.named.Goals as goal

pub returns : goal.returns
returns c = (
  named_by _ _ c.checked_sub.ensures (ap (λ (x : ℕ). x + c.args.off) c.at.ensures.0),
  named_low _ _ c.checked_sub.ensures (omega arith),
)
