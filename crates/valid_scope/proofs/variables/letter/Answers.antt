use Rattle.valid_scope.proofs.variables.Laws.{letter_v, letter_s}
use Rattle.valid_scope.proofs.variables.letter.Goals as goal

pub returns-then-x-eq0 : goal.returns-then-x-eq0
returns-then-x-eq0 c = letter_v _ (search)

pub returns-else-x-eq0 : goal.returns-else-x-eq0
returns-else-x-eq0 c = letter_s _ (search)
