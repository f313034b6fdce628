use native.Mathlib.Omega.{arith}
use mathlib.Core.Path.{◌∙◌}
use Rattle.valid_scope.proofs.variables.Laws.{use_past, use_in}
use Rattle.valid_scope.proofs.variables.use_at.Goals as goal

pub returns-then-k-lt64 : goal.returns-then-k-lt64
returns-then-k-lt64 c = c.entry_or.ensures ∙ use_in _ _ _ (omega arith)

pub returns-else-k-lt64 : goal.returns-else-k-lt64
returns-else-k-lt64 c = use_past _ _ _ (omega arith)
