use mathlib.Core.Path.{refl}
use Rattle.exec_step.proofs.moved.Laws.{named, ended, to_register}
use Rattle.exec_machine.proofs.Leaves.{arith_left, arith_right, arith_done}
use Rattle.exec_step.proofs.registers.reckon.Goals as goal

pub returns-then-x-ne-INT : goal.returns-then-x-ne-INT
returns-then-x-ne-INT c =
    λ ω b S H ew p m j et lp. ended ω c.stuck.ensures (arith_left _ p _ _ _ b _ (named _ c.get-x.ensures (search)) refl (search))

pub returns-then-w-ne-INT : goal.returns-then-w-ne-INT
returns-then-w-ne-INT c =
    λ ω b S H ew p m j et lp. ended ω c.stuck-then-w-ne-INT.ensures (arith_right _ p _ _ _ b _ (named _ c.get-x.ensures (search)) _ ew (search)
    refl (search))

pub returns : goal.returns
returns c =
    λ ω b S H ew p m j et lp. to_register ω et lp c.requires.0.depth c.requires.0.used
    (arith_done _ p _ _ _ b _ (named _ c.get-x.ensures c.index.ensures.0) _ ew c.if-x-ne-INT.false c.if-w-ne-INT.false c.compute.ensures
    refl) c.assign.ensures.0 c.assign.ensures.1
