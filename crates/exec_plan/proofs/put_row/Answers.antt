use Rattle.exec_plan.proofs.Laws.{eight}
use Rattle.exec_plan.proofs.put_row.Goals as goal

pub returns : goal.returns
returns c = eight _ _ _ c.copy_from_slice.ensures.len c.copy_from_slice.ensures.after c.requires
