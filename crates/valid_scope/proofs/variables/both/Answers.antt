use borrow.Author.Tests.{eq-eqb, ne_eqb}
use Rattle.valid_scope.specs.variables.Free.{both}
use Rattle.valid_scope.proofs.variables.Laws.{both_right}
use Rattle.valid_scope.proofs.variables.both.Goals as goal

pub returns-in-0-default : goal.returns-in-0-default
unfolding both
returns-in-0-default c = simp (eq-eqb _ _ c.in-0-default.is-0)

pub returns-in_default-eq0 : goal.returns-in_default-eq0
returns-in_default-eq0 c = both_right _ _ c.in_default-eq0.is-1

pub returns-then-u-w : goal.returns-then-u-w
unfolding both
returns-then-u-w c = simp (ne_eqb _ _ c.in_default.is-0.1, ne_eqb _ _ c.in_default.is-1.1, eq-eqb _ _ c.if-u-w.true)

pub returns-else-u-w : goal.returns-else-u-w
unfolding both
returns-else-u-w c = simp (ne_eqb _ _ c.in_default.is-0.1, ne_eqb _ _ c.in_default.is-1.1, ne_eqb _ _ c.if-u-w.false)
