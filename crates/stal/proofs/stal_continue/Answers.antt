use Rattle.stal.proofs.Laws.{called}
use Rattle.stal.proofs.stal_continue.Goals as goal

pub returns : goal.returns
returns c =
    called c.resume-out.result _ _ _ _ _ _ _ _ _ _ _ c.resume-out.ensures c.put_place.ensures c.put_reply.ensures
