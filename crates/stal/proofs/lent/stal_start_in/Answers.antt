use Rattle.stal.proofs.Laws.{called}
use Rattle.stal.proofs.lent.stal_start_in.Goals as goal

pub returns : goal.returns
returns c =
    (called c.start-out.result _ _ _ _ _ _ _ _ _ _ _ c.start-out.ensures.0 c.put_place.ensures c.put_reply.ensures, c.start-out.ensures.1)
