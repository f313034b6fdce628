use Rattle.valid_typing.proofs.Args.{letter_stack, letter_value}
use Rattle.valid_typing.proofs.letter_fits.Goals as goal

pub returns-then-stack : goal.returns-then-stack
returns-then-stack c = letter_stack _ _ (search)

pub returns-else-stack : goal.returns-else-stack
returns-else-stack c = letter_value _ _ (search)
