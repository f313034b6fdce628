use Rattle.exec_step.proofs.registers.Laws.{word_reg}
use Rattle.exec_step.proofs.registers.register.Goals as goal

pub returns : goal.returns
returns c = word_reg _ _ c.get.ensures (search)
