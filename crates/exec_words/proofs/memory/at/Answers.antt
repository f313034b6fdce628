use Rattle.exec.specs.Machine.{at}
use Rattle.exec_words.proofs.memory.Laws.{word_is_lem}
use Rattle.exec_words.proofs.memory.at.Goals as goal

pub returns : goal.returns
unfolding at
returns c = word_is_lem _ c.entry_or.ensures c.entry_or-2.ensures
