use Rattle.stal.proofs.Laws.{called}
use Rattle.stal.proofs.stal_start.Goals as goal

pub returns : goal.returns
returns c =
    called c.start-out.result _ _ _ _ _ _ _ _ _ _ _ c.start-out.ensures c.put_place.ensures c.put_reply.ensures
