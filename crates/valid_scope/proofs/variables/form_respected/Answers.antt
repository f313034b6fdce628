use native.Mathlib.Omega.{arith}
use Rattle.valid_scope.proofs.variables.Laws.{respected_tuple, respected_pointer, respected_code, respected_hidden, respected_two, respected_leaf, two_first, two_second}
use Rattle.valid_scope.proofs.variables.form_respected.Goals as goal

pub returns-in-3 : goal.returns-in-3
returns-in-3 c = respected_tuple _ _ _ _ _ _ c.parts_respected.ensures c.in-3.is

pub returns-in-4 : goal.returns-in-4
returns-in-4 c = respected_pointer _ _ _ _ _ _ c.respected_at.ensures c.in-4.is

pub returns-in-5 : goal.returns-in-5
returns-in-5 c = respected_code _ _ _ _ _ _ c.code_respected.ensures c.in-5.is

pub returns-in-6 : goal.returns-in-6
returns-in-6 c = respected_hidden _ _ _ _ _ _ c.hidden_respected.ensures c.in-6.is

pub returns-in-0 : goal.returns-in-0
returns-in-0 c = respected_leaf _ _ _ _ _ _ (λ e. omega arith) (λ e. omega arith) (λ e. omega arith) (λ e. omega arith) (omega arith)

pub returns-then-respected_at : goal.returns-then-respected_at
returns-then-respected_at c =
    respected_two _ _ _ _ _ _ (two_second _ c.respected_at-in_default.ensures c.if-respected_at.true c.respected_at-then-respected_at.ensures) (omega arith)

pub returns-else-respected_at : goal.returns-else-respected_at
returns-else-respected_at c = respected_two _ _ _ _ _ _ (two_first _ c.respected_at-in_default.ensures c.if-respected_at.false) (omega arith)
