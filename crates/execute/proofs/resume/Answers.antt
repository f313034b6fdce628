use mathlib.Core.Path.{refl}
use Rattle.execute.proofs.resume.Goals as goal

pub returns : goal.returns
returns c = c.call.ensures.continued refl

pub call-requires : goal.call-requires
call-requires c = tt
