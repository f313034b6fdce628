use mathlib.Core.Path.{◌∙◌}
use borrow.Author.Tests.{eq-eqb}
use Rattle.valid_scope.proofs.variables.Laws.{bound_unused, fits_value}
use Rattle.valid_scope.proofs.variables.is_value.Goals as goal

pub returns-then-u-eq0 : goal.returns-then-u-eq0
returns-then-u-eq0 c = eq-eqb _ _ c.if-u-eq0.true ∙ bound_unused _ _ c.if-u-eq0.true

pub returns-else-u-eq0 : goal.returns-else-u-eq0
returns-else-u-eq0 c = fits_value _ c.if-u-eq0.false
