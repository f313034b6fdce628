use mathlib.Core.Path.{◌∙◌}
use borrow.Author.Tests.{eq-eqb, le-ltb}
use native.Mathlib.Omega.{arith}
use Rattle.valid_scope.proofs.variables.Laws.{bound_unused, bound_past, bound_in}
use Rattle.valid_scope.proofs.variables.is_bound.Goals as goal

pub returns-then-u-eq0 : goal.returns-then-u-eq0
returns-then-u-eq0 c = eq-eqb _ _ c.if-u-eq0.true ∙ bound_unused _ _ c.if-u-eq0.true

pub returns-then-k-q : goal.returns-then-k-q
returns-then-k-q c = bound_in _ _ _ _ _ c.if-u-eq0.false (omega arith) c.at_past.ensures c.letter.ensures

pub returns-else-k-q : goal.returns-else-k-q
returns-else-k-q c = le-ltb _ _ c.if-k-q.false ∙ bound_past _ _ _ _ _ c.if-u-eq0.false (omega arith)
