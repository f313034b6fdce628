use Prim.Native.Nat.{ℕ, ◌-◌}
use native.Mathlib.Omega.{arith}
use mathlib.Core.Path.{refl, ap}
use Rattle.exec_step.proofs.moved.Laws.{named, ended, to_register}
use Rattle.exec_machine.proofs.Leaves.{through_kind, through_above, through_past, through_done}
use Rattle.exec_step.proofs.stack.peek_through.Goals as goal

pub returns-then-w-ne-HEIGHT : goal.returns-then-w-ne-HEIGHT
returns-then-w-ne-HEIGHT c =
    λ ω H p m j et lp. ended ω c.stuck.ensures (through_kind _ _ _ p _ _ _ _ (named _ c.get-w.ensures (search)) refl (search))

pub returns-then-turn-w : goal.returns-then-turn-w
returns-then-turn-w c =
    λ ω H p m j et lp. ended ω c.stuck-then-turn-w.ensures (through_above _ _ _ p _ _ _ _ (named _ c.get-w.ensures (search)) _ refl (search)
    refl (search))

pub returns-then-top-i : goal.returns-then-top-i
returns-then-top-i c =
    λ ω H p m j et lp. ended ω c.stuck-then-top-i.ensures (through_past _ _ _ p _ _ _ _ (named _ c.get-w.ensures (search)) _
    refl (search) refl (omega arith) (omega arith))

pub assign-requires : goal.assign-requires
assign-requires c = (search, search, c.requires.0.low.first)

pub returns : goal.returns
returns c =
    λ ω H p m j et lp. to_register ω et lp c.requires.0.depth c.requires.0.used
    (through_done _ _ _ p _ _ _ _ (named _ c.get-w.ensures c.index.ensures.0) _ refl c.if-w-ne-HEIGHT.false _
    (omega (arith, c.if-turn-w.false)) (omega (arith, c.if-top-i.false, c.index-i.ensures.0))
    (named _ c.get-x.ensures (ap (λ (k : ℕ). c.get-w.result.number - k - 1) c.index-i.ensures.0))) c.assign.ensures.0
    c.assign.ensures.1
