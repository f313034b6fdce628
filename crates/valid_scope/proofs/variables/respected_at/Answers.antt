use mathlib.Core.Path.{ap}
use mathlib.Core.Bool.{not}
use lib.Dec.{eqb}
use Rattle.valid_scope.specs.variables.Uses.{respected_at}
use Rattle.valid_scope.proofs.variables.respected_at.Goals as goal

pub returns : goal.returns
unfolding respected_at
returns c = ap (λ z. not (eqb z 255)) c.at.ensures.0
