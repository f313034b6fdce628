use mathlib.Core.Path.{◌∙◌}
use Rattle.tables.proofs.Steps.{end_inner, end_last}
use Rattle.valid_pass_three.proofs.block_end.Goals as goal

pub returns-then-b-nb : goal.returns-then-b-nb
returns-then-b-nb c = c.cell.ensures.0 ∙ end_inner _ _ _ _ (search)

pub returns-else-b-nb : goal.returns-else-b-nb
returns-else-b-nb c = end_last _ _ _ _ (search)
