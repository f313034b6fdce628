use native.Mathlib.Omega.{arith}
use mathlib.Core.Path.{refl}
use Rattle.exec_step.proofs.moved.Laws.{ended, to_position}
use Rattle.exec_machine.proofs.Leaves.{jump_kind, jump_label, jump_done}
use Rattle.exec_step.proofs.registers.jump.Goals as goal

pub returns-then-w-ne-CODE : goal.returns-then-w-ne-CODE
returns-then-w-ne-CODE c = λ ω R S H m j starts. ended ω c.stuck.ensures (jump_kind _ _ _ refl (search))

pub returns-then-labels-l : goal.returns-then-labels-l
returns-then-labels-l c =
    λ ω R S H m j starts. ended ω c.stuck-then-labels-l.ensures (jump_label _ _ _ _ refl (search) refl (search))

pub returns : goal.returns
returns c =
    λ ω R S H m j starts. to_position ω refl (omega (arith, c.cell.ensures.0, starts _ c.if-labels-l.false)) c.requires.0 c.requires.1
    (jump_done _ _ _ _ refl c.if-w-ne-CODE.false c.if-labels-l.false c.cell.ensures.0) c.goes.ensures
