use native.Mathlib.Omega.{arith}
use mathlib.Core.Path.{sym, ◌∙◌}
use Rattle.valid_context.specs.Told.{answer}
use Rattle.valid_context.proofs.Sp.{values_fit}
use Rattle.valid_judge.proofs.stack.Laws.{freed, kept}
use Rattle.valid_judge.proofs.stack.free.Goals as goal

pub overflow_sub-result : goal.overflow_sub-result
overflow_sub-result c = values_fit _ _ _ (sym c.values.ensures.0 ∙ c.if-values.true)

pub returns-then-values : goal.returns-then-values
unfolding answer
returns-then-values c = (λ T regs P Δ. freed P Δ T regs _ _ _ _ (c.values.ensures.1 T) c.if-values.true, omega arith)

pub returns-else-values : goal.returns-else-values
unfolding answer
returns-else-values c = (λ T regs P Δ. kept P Δ T regs _ _ _ 0 _ (c.values.ensures.1 T) c.if-values.false, tt)
