use native.Mathlib.Omega.{arith}
use mathlib.Core.Path.{refl}
use Rattle.exec_step.proofs.moved.Laws.{named, ended, to_depth}
use Rattle.exec_machine.proofs.Leaves.{cut_kind, cut_above, cut_done}
use Rattle.exec_step.proofs.stack.cut.Goals as goal

pub returns-then-w-ne-HEIGHT : goal.returns-then-w-ne-HEIGHT
returns-then-w-ne-HEIGHT c =
    λ ω S H p m j et lp. ended ω c.stuck.ensures (cut_kind _ _ p _ _ (named _ c.get-w.ensures (search)) refl (search))

pub returns-then-turn-w : goal.returns-then-turn-w
returns-then-turn-w c =
    λ ω S H p m j et lp. ended ω c.stuck-then-turn-w.ensures (cut_above _ _ p _ _ (named _ c.get-w.ensures (search)) refl (search) (search))

pub returns : goal.returns
returns c =
    λ ω S H p m j et lp. to_depth ω et lp c.requires.0.depth c.requires.0.used (omega (arith, c.if-turn-w.false, c.requires.0.depth))
    (cut_done _ _ p _ _ (named _ c.get-w.ensures c.index.ensures.0) c.if-w-ne-HEIGHT.false c.if-turn-w.false) c.goes.ensures
