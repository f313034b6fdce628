use Rattle.types_pass_two.proofs.instr_refs.Operands.{operands_start, operands_next, operands_end}
use Rattle.types_pass_two.proofs.instr_refs.operands_fault.Goals as goal

pub loop-i-init : goal.loop-i-init
loop-i-init c = operands_start _ _ _ _ _ _

pub loop-i-preserved : goal.loop-i-preserved
loop-i-preserved c = operands_next _ _ _ _ _ _ _ _ _ _ c.loop-i-test.true c.operand_fault-g.ensures c.least-f.ensures c.loop-i.invariant

pub returns : goal.returns
returns c = operands_end _ _ _ _ _ _ _ _ c.loop-i-test.false c.loop-i.invariant
