use Rattle.print_write.proofs.Laws.{part_put}
use Rattle.print_write.proofs.put.Goals as goal

pub returns : goal.returns
returns c = part_put _ _ _ _ c.requires c.copy_from_slice.ensures.after
