use Rattle.print_write.proofs.Laws.{put_first, not_put}
use Rattle.print_write.proofs.write.Goals as goal

pub returns-then-out-line : goal.returns-then-out-line
returns-then-out-line c = not_put _ _ c.if-out-line.true

pub returns : goal.returns
returns c = put_first _ _ _ _ c.put.ensures c.if-out-line.false
