use Rattle.exec_plan.proofs.Laws.{added_is, added_else}
use Rattle.exec_plan.proofs.added.Goals as goal

pub returns-then-kind-eq1 : goal.returns-then-kind-eq1
returns-then-kind-eq1 c = added_is _ _ (search) (search) c.wrapping_neg.type_inv c.wrapping_neg.ensures

pub returns-else-kind-eq1 : goal.returns-else-kind-eq1
returns-else-kind-eq1 c = added_else _ _ (search)
