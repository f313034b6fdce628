use Rattle.exec_call.proofs.Laws.{continuing_in_lem}
use Rattle.execute.proofs.lent.resume.Goals as goal

pub returns : goal.returns
returns c = (continuing_in_lem c.call.ensures.0, c.call.ensures.1)

pub call-requires : goal.call-requires
call-requires c = tt
