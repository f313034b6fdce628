use borrow.Author.Tests.{le-ltb}
use Rattle.valid_typing.proofs.Args.{kind_low, kind_past}
use Rattle.valid_typing.proofs.is_stack_row.Goals as goal

pub returns-then-t-n : goal.returns-then-t-n
returns-then-t-n c = λ parts. kind_low _ parts _ _ _ (search) c.is_stack.ensures

pub returns-else-t-n : goal.returns-else-t-n
returns-else-t-n c = λ parts. rw (le-ltb _ _ c.if-t-n.false) (kind_past _ parts _ _ (search))
