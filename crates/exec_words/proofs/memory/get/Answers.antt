use Rattle.exec_words.proofs.memory.Laws.{word_in}
use Rattle.exec_words.proofs.memory.get.Goals as goal

pub returns : goal.returns
returns c = word_in _ _ _ (search)
