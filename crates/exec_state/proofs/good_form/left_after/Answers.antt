use Rattle.std.proofs.Common.{arith}
use Rattle.exec_state.proofs.good_form.Laws.{at_start, within}
use Rattle.exec_state.proofs.good_form.left_after.Goals as goal

pub returns-then-k-eq0 : goal.returns-then-k-eq0
returns-then-k-eq0 c = at_start _ _ _ (search) c.tuple_length.ensures

pub returns-else-k-eq0 : goal.returns-else-k-eq0
returns-else-k-eq0 c = (within _ _ c.if-k-eq0.false, omega arith)
