use Rattle.valid_scope.proofs.Laws.{row_from_lem}
use Rattle.valid_scope.proofs.form_at.Goals as goal

pub returns : goal.returns
returns c =
    (λ parts. row_from_lem _ parts _ (search) (search) (search), c.cell-2.ensures.1, c.cell-3.ensures.1)
