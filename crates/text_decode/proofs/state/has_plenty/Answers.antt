use Rattle.std.proofs.Common.{arith}
use Rattle.std.proofs.lemmas.Bool.Decides.{nat_tests}
use Rattle.text_decode.proofs.state.Room.{all_room}
use Rattle.text_decode.proofs.state.has_plenty.Goals as goal

pub returns-then-p-ge8200 : goal.returns-then-p-ge8200
returns-then-p-ge8200 c = all_room _ _ (grind (arith, nat_tests)) (grind (arith, nat_tests)) (grind (arith, nat_tests)) (grind (arith, nat_tests)) (grind (arith, nat_tests)) (grind (arith, nat_tests))
