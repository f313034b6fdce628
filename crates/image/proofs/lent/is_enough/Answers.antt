use Rattle.std.proofs.Common.{arith}
use Rattle.std.proofs.lemmas.Bool.Decides.{nat_tests}
use Rattle.image.specs.Enough.{enough}
use Rattle.image.proofs.lent.is_enough.Goals as goal

pub returns-then-numbers-ge16400 : goal.returns-then-numbers-ge16400
unfolding enough
returns-then-numbers-ge16400 c = grind (arith, nat_tests)

pub returns-else-numbers-ge16400 : goal.returns-else-numbers-ge16400
unfolding enough
returns-else-numbers-ge16400 c = grind (arith, nat_tests)
