use Prim.Native.Nat.{◌+◌}
use native.Mathlib.Omega.{arith}
use Rattle.exec_plan.specs.Plan.{target_at, goal_in}
use Rattle.exec_step.proofs.moved.Laws.{as_turned}
use Rattle.exec_step.proofs.Tabled.{starts, in_table, goals, step_is}
use Rattle.exec_step.proofs.step.Goals as goal

pub returns : goal.returns
returns c =
    λ T j pl fit e lj el eβ eo eb. as_turned (step_is T _ _ j e pl lj _ _ _ _ _ el eβ eo eb)
    (c.row.ensures.turned T.count (target_at T j) j (j + 1) (goal_in T j)
    (starts T fit el eβ) (goals T _ _ j e pl lj fit) (omega (arith, e)) (in_table T _ _ j e pl lj))
