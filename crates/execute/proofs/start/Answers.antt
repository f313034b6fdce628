use mathlib.Core.Path.{refl}
use Rattle.execute.proofs.start.Goals as goal

pub returns : goal.returns
returns c = c.call.ensures.started refl

pub call-requires : goal.call-requires
call-requires c = tt
