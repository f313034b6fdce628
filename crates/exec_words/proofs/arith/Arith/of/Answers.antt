use Rattle.std.proofs.Common.{refl}
use Rattle.exec_words.specs.arith.Codes.{arith_of}
use Rattle.exec_words.proofs.arith.Laws.{third}
use Rattle.exec_words.proofs.arith.Arith.of.Goals as goal

pub returns-in-0 : goal.returns-in-0
unfolding arith_of
returns-in-0 c = rw c.in-0.is refl

pub returns-in-1 : goal.returns-in-1
unfolding arith_of
returns-in-1 c = rw c.in-1.is refl

pub returns-in_default : goal.returns-in_default
returns-in_default c = third _ c.in_default.in_default-own.rest.0.1 c.in_default.in_default-own.rest.1
