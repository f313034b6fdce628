use native.Mathlib.Omega.{arith}
use Rattle.valid_scope.proofs.variables.Laws.{part_none, part_some}
use Rattle.valid_scope.proofs.variables.part_use.Goals as goal

pub use_at-requires : goal.use_at-requires
use_at-requires c = omega (arith, c.named.ensures.1 _ c.in-Some.is)

pub returns-in-Some : goal.returns-in-Some
returns-in-Some c = part_some _ _ c.in-Some.is c.named.ensures.0 c.use_at.ensures

pub returns-in-None : goal.returns-in-None
returns-in-None c = part_none _ _ c.in-None.is c.named.ensures.0
