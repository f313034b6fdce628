use Prim.Native.Nat.{ℕ, ◌+◌}
use native.Mathlib.Omega.{arith}
use mathlib.Core.Path.{refl, ap}
use Rattle.exec_step.proofs.moved.Laws.{named, ended, to_register}
use Rattle.exec_machine.proofs.Leaves.{load_kind, load_past, load_done}
use Rattle.exec_step.proofs.heap.Laws.{start_lent, component_lent}
use Rattle.exec_step.proofs.heap.load.Goals as goal

pub returns-then-w-ne-TUPLE : goal.returns-then-w-ne-TUPLE
returns-then-w-ne-TUPLE c =
    λ ω S p m j et lp. ended ω c.stuck.ensures (load_kind _ _ p _ _ _ _ (named _ c.get-w.ensures (search)) refl (search))

pub get-length-requires : goal.get-length-requires
get-length-requires c =
    start_lent _ _ _ c.requires.3 c.requires.2 _ c.requires.0.low.second _ (named _ c.get-w.ensures (search)) (search) _ (search)

pub returns-then-length-i : goal.returns-then-length-i
returns-then-length-i c =
    λ ω S p m j et lp. ended ω c.stuck-then-length-i.ensures (load_past _ _ p _ _ _ _ (named _ c.get-w.ensures (search)) _ refl
    (search) _ c.get-length.ensures refl refl (omega arith))

pub get-requires : goal.get-requires
get-requires c =
    component_lent _ _ _ c.requires.3 c.requires.2 _ c.requires.0.low.second _ (named _ c.get-w.ensures (search)) (search) _ (search) _ _
    c.get-length.ensures (omega arith)

pub assign-requires : goal.assign-requires
assign-requires c = (search, search, c.requires.0.low.first)

pub returns : goal.returns
returns c =
    λ ω S p m j et lp. to_register ω et lp c.requires.0.depth c.requires.0.used
    (load_done _ _ p _ _ _ _ (named _ c.get-w.ensures c.index.ensures.0) _ refl c.if-w-ne-TUPLE.false _
    c.get-length.ensures _ refl (omega (arith, c.if-length-i.false, c.index-i.ensures.0))
    (named _ c.get.ensures (ap (λ (k : ℕ). c.get-w.result.number + k + 1) c.index-i.ensures.0))) c.assign.ensures.0
    c.assign.ensures.1
