use Rattle.exec_step.proofs.registers.Laws.{word_lit}
use Rattle.exec_step.proofs.registers.literal.Goals as goal

pub returns : goal.returns
returns c = λ R. word_lit R (search)
