use Rattle.exec_words.proofs.arith.Laws.{signed_is}
use Rattle.exec_words.proofs.arith.signed.Goals as goal

pub returns : goal.returns
returns c = signed_is _ c.cast_signed.type_inv c.cast_signed.ensures
