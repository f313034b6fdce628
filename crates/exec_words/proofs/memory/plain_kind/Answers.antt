use Rattle.exec_words.proofs.memory.Laws.{kind_of}
use Rattle.exec_words.proofs.memory.plain_kind.Goals as goal

pub returns : goal.returns
returns c = kind_of _
