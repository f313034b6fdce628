use native.Mathlib.Omega.{arith}
use Rattle.exec_call.proofs.Laws.{plan_small, plan_large}
use Rattle.exec_call.proofs.attempt.call.Goals as goal

pub call_sized-requires-clause-plan_fits : goal.call_sized-requires-clause-plan_fits
call_sized-requires-clause-plan_fits c = plan_small 4423 712 (omega arith) (omega arith) (omega arith)

pub call_sized-requires-2-clause-plan_fits : goal.call_sized-requires-2-clause-plan_fits
call_sized-requires-2-clause-plan_fits c = plan_large 150900 8208 (omega arith) (omega arith)
