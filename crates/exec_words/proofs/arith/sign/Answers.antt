use Rattle.std.proofs.Common.{refl}
use Rattle.exec_words.proofs.arith.Laws.{by_order}
use Rattle.exec_words.proofs.arith.sign.Goals as goal

pub returns-in-Less : goal.returns-in-Less
returns-in-Less c = by_order _ _ c.signed.type_inv c.signed.ensures c.in-Less.ensures refl

pub returns-in-Equal : goal.returns-in-Equal
returns-in-Equal c = by_order _ _ c.signed.type_inv c.signed.ensures c.in-Equal.ensures refl

pub returns-in-Greater : goal.returns-in-Greater
returns-in-Greater c = by_order _ _ c.signed.type_inv c.signed.ensures c.in-Greater.ensures refl
