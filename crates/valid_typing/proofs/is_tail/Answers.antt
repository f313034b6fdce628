use borrow.Author.Tests.{lt-leb}
use mathlib.Core.Path.{◌∙◌}
use Rattle.valid_typing.proofs.Stacks.{count_is, read_short, read_tail}
use Rattle.valid_typing.proofs.is_tail.Goals as goal

pub returns-then-m-d : goal.returns-then-m-d
returns-then-m-d c =
    let k = c.item_count-m.ensures.0 ∙ count_is _ _ _ _ c.requires.0.ready c.requires.1 in
    read_tail _ _ _ _ _ _ _ k (search) c.same_items.ensures

pub returns-else-m-d : goal.returns-else-m-d
returns-else-m-d c =
    let k = c.item_count-m.ensures.0 ∙ count_is _ _ _ _ c.requires.0.ready c.requires.1 in
    rw (lt-leb _ _ c.if-m-d.false) (read_short _ _ _ _ _ _ _ k (search))
