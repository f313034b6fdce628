use native.Mathlib.Omega.{arith}
use Rattle.exec_plan.proofs.Laws.{no_rows, row_next, all_rows}
use Rattle.exec_plan.proofs.predecode.Goals as goal

pub loop-j-init : goal.loop-j-init
loop-j-init c = no_rows _ _

pub loop-j-preserved : goal.loop-j-preserved
loop-j-preserved c = row_next _ _ _ c.loop-j.invariant (omega arith) (c.make_row.ensures _)

pub returns : goal.returns
returns c = all_rows _ _ _ c.loop-j.invariant (omega arith) (omega arith) c.put_row.ensures
