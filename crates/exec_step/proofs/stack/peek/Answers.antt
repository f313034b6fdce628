use Prim.Native.Nat.{ℕ, ◌-◌}
use native.Mathlib.Omega.{arith}
use mathlib.Core.Path.{refl, ap}
use Rattle.exec_step.proofs.moved.Laws.{named, ended, to_register}
use Rattle.exec_machine.proofs.Leaves.{read_past, read_done}
use Rattle.exec_step.proofs.stack.peek.Goals as goal

pub returns-then-top-i : goal.returns-then-top-i
returns-then-top-i c = λ ω H p m j et lp. ended ω c.stuck.ensures (read_past _ _ p _ _ refl (omega arith))

pub returns : goal.returns
returns c =
    λ ω H p m j et lp. to_register ω et lp c.requires.0.depth c.requires.0.used
    (read_done _ _ p _ _ _ (omega (arith, c.if-top-i.false, c.index-i.ensures.0))
    (named _ c.get-x.ensures (ap (λ (k : ℕ). c.args.turn.depth - k - 1) c.index-i.ensures.0))) c.assign.ensures.0
    c.assign.ensures.1
