use Rattle.valid_scope.proofs.variables.Laws.{respected_none, respected_some}
use Rattle.valid_scope.proofs.variables.part_respected.Goals as goal

pub returns-in-Some : goal.returns-in-Some
returns-in-Some c = respected_some _ c.in-Some.is c.named.ensures.0 c.respected_at.ensures

pub returns-in-None : goal.returns-in-None
returns-in-None c = respected_none _ c.in-None.is c.named.ensures.0
