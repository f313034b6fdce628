use Rattle.exec_step.proofs.registers.Laws.{word_constant}
use Rattle.exec_step.proofs.registers.constant.Goals as goal

pub returns : goal.returns
returns c = word_constant (search) (search)
