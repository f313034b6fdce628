use borrow.Author.Tests.{le-leb}
use Rattle.valid_typing.proofs.Args.{past_formed}
use Rattle.valid_typing.proofs.formed_arg.Goals as goal

pub returns-then-t-n : goal.returns-then-t-n
returns-then-t-n c = rw (le-leb _ _ c.if-t-n.true) (past_formed _ _ _ _ _ (search))
