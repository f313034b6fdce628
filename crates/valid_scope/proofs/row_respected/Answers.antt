use Rattle.valid_scope.proofs.Laws.{row_respects}
use Rattle.valid_scope.proofs.row_respected.Goals as goal

pub returns : goal.returns
returns c = row_respects _ _ _ c.cell.ensures.0 c.cell-2.ensures.0 c.cell-3.ensures.0 _ _ (search)
