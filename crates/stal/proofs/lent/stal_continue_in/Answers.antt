use Rattle.stal.proofs.Laws.{called}
use Rattle.stal.proofs.lent.stal_continue_in.Goals as goal

pub returns : goal.returns
returns c =
    (called c.resume-out.result _ _ _ _ _ _ _ _ _ _ _ c.resume-out.ensures.0 c.put_place.ensures c.put_reply.ensures, c.resume-out.ensures.1)
