use native.Mathlib.Omega.{arith}
use Rattle.valid_scope.proofs.variables.Laws.{use_value, use_stack, use_tuple, use_pointer, use_code, use_hidden, use_two, use_leaf}
use Rattle.valid_scope.proofs.variables.form_use.Goals as goal

pub returns-in-2 : goal.returns-in-2
returns-in-2 c = use_value _ _ _ _ _ _ c.own.ensures c.in-2.is

pub returns-in-3 : goal.returns-in-3
returns-in-3 c = use_tuple _ _ _ _ _ _ c.parts_use.ensures c.in-3.is

pub returns-in-4 : goal.returns-in-4
returns-in-4 c = use_pointer _ _ _ _ _ _ c.use_at.ensures c.in-4.is

pub returns-in-5 : goal.returns-in-5
returns-in-5 c = use_code _ _ _ _ _ _ c.at.ensures.0 c.code_use.ensures c.in-5.is

pub returns-in-6 : goal.returns-in-6
returns-in-6 c = use_hidden _ _ _ _ _ _ c.use_at-in-6.ensures c.in-6.is

pub returns-in-8 : goal.returns-in-8
returns-in-8 c = use_stack _ _ _ _ _ _ c.own-in-8.ensures c.in-8.is

pub returns-in_default : goal.returns-in_default
returns-in_default c = use_two _ _ _ _ _ _ c.both.ensures c.use_at-in_default.ensures c.use_at-in_default-2.ensures (omega arith)

pub returns-in-0 : goal.returns-in-0
returns-in-0 c = use_leaf _ _ _ _ _ _ (λ e. omega arith) (λ e. omega arith) (λ e. omega arith) (λ e. omega arith) (λ e. omega arith) (λ e. omega arith) (omega arith)

pub returns-in-0-2 : goal.returns-in-0-2
returns-in-0-2 c = use_leaf _ _ _ _ _ _ (λ e. omega arith) (λ e. omega arith) (λ e. omega arith) (λ e. omega arith) (λ e. omega arith) (λ e. omega arith) (omega arith)
