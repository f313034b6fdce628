use Rattle.valid_typing.proofs.operands.Filling.{closed_row}
use Rattle.image.specs.Sections.{part}
use Rattle.valid_typing.proofs.operands.is_closed.Goals as goal

pub formed-requires : goal.formed-requires
unfolding part
formed-requires c = (search, search)

pub returns-then-t-n : goal.returns-then-t-n
unfolding part
returns-then-t-n c = closed_row _ _ _ _ (search) (search)
