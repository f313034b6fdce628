use Rattle.std.proofs.Common.{arith}
use Rattle.std.proofs.lemmas.Bool.Decides.{nat_tests}
use Rattle.image.specs.Enough.{enough_to_check}
use Rattle.image.proofs.lent.is_enough_to_check.Goals as goal

pub returns-then-is_enough : goal.returns-then-is_enough
unfolding enough_to_check
returns-then-is_enough c = grind (arith, nat_tests)

pub returns-else-is_enough : goal.returns-else-is_enough
unfolding enough_to_check
returns-else-is_enough c = grind (arith, nat_tests)
