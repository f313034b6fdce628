use Prim.Native.Nat.{ℕ, ◌+◌, ◌-◌}
use native.Mathlib.Omega.{arith}
use mathlib.Core.Path.{refl, ap, ◌∙◌}
use Rattle.exec_step.specs.moved.Stepped.{toward}
use Rattle.exec_step.proofs.moved.Laws.{ended, to_depth}
use Rattle.exec_machine.proofs.Leaves.{pop_past, pop_done}
use Rattle.exec_step.proofs.stack.pop.Goals as goal

pub returns-then-turn-n : goal.returns-then-turn-n
returns-then-turn-n c = λ ω R S H p m j et lp. ended ω c.stuck.ensures (pop_past _ p _ refl (omega arith))

pub returns : goal.returns
returns c =
    λ ω R S H p m j et lp. to_depth ω et lp (search) (search) (omega arith) (pop_done _ p _ (omega arith))
    (c.goes.ensures ∙ ap (λ (k : ℕ). toward c.args.turn.more (c.args.turn.at + 8) (c.args.turn.depth - k) c.args.turn.used) c.read-n.ensures)
