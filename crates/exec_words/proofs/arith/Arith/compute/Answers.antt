use Rattle.std.proofs.Common.{rules}
use Rattle.exec.specs.Machine.{compute}
use Rattle.exec_words.proofs.arith.Laws.{differs}
use Rattle.exec_words.proofs.arith.Arith.compute.Goals as goal

pub returns-in-Add : goal.returns-in-Add
unfolding compute
returns-in-Add c = search rules

pub returns-in-Sub : goal.returns-in-Sub
returns-in-Sub c = rw c.in-Sub.is (differs _ _ (search))

pub returns-in-Mul : goal.returns-in-Mul
unfolding compute
returns-in-Mul c = search rules
