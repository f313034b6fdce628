use Rattle.exec_plan.proofs.Laws.{column_in_lem}
use Rattle.exec_plan.proofs.column_in.Goals as goal

pub returns-then-code-lt24 : goal.returns-then-code-lt24
returns-then-code-lt24 c = column_in_lem _ _ c.if-code-lt24.true c.requires
