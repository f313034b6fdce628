use native.Mathlib.Omega.{arith}
use Rattle.valid_typing.proofs.Args.{given_row_low, given_row_past}
use Rattle.valid_typing.proofs.given_row.Goals as goal

pub returns-then-t-n : goal.returns-then-t-n
returns-then-t-n c = (given_row_low _ _ (search), omega arith)

pub returns-else-t-n : goal.returns-else-t-n
returns-else-t-n c = (given_row_past _ _ (search), omega arith)
