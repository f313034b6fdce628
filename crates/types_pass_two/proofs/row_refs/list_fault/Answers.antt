use Rattle.types_pass_two.proofs.row_refs.References.{list_start, list_next, list_end}
use Rattle.types_pass_two.proofs.row_refs.list_fault.Goals as goal

pub loop-i-init : goal.loop-i-init
loop-i-init c = list_start _ _ _ _ _ _

pub loop-i-preserved : goal.loop-i-preserved
loop-i-preserved c = list_next _ _ _ _ _ _ _ _ _ _ _ c.loop-i-test.true c.at.ensures.0 c.part_fault.ensures c.least-f.ensures c.loop-i.invariant

pub returns : goal.returns
returns c = list_end _ _ _ _ _ _ _ _ c.loop-i-test.false c.loop-i.invariant
