use Rattle.exec_words.proofs.arith.Laws.{taken_is}
use Rattle.exec_words.proofs.arith.is_taken.Goals as goal

pub returns : goal.returns
returns c = taken_is _ _ (search) (search)
