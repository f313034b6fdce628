use native.Mathlib.Omega.{arith}
use Rattle.valid_typing.proofs.Forms.{row_none, row_some}
use Rattle.valid_typing.proofs.row_of.Goals as goal

pub returns-then-h-eq0 : goal.returns-then-h-eq0
returns-then-h-eq0 c = (λ rows parts r. row_none rows parts _ _ (search) r, omega arith)

pub returns-else-h-eq0 : goal.returns-else-h-eq0
returns-else-h-eq0 c = (λ rows parts r. row_some rows parts _ _ (search) (search), omega arith)
