use native.Mathlib.Omega.{arith}
use Rattle.valid_scope.proofs.variables.Laws.{parts_none, parts_more, parts_all}
use Rattle.valid_scope.proofs.variables.parts_use.Goals as goal

pub loop-i-init : goal.loop-i-init
loop-i-init c = (omega arith, parts_none _ _ _ _ _ _ _ (omega arith))

pub loop-i-preserved : goal.loop-i-preserved
loop-i-preserved c =
    (omega arith, parts_more _ _ _ _ _ _ _ (search) (search) c.loop-i.invariant.1 c.part_use.ensures (search))

pub returns : goal.returns
returns c = parts_all _ _ _ _ _ _ _ (omega arith) c.loop-i.invariant.1
