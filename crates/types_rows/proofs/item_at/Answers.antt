use Rattle.types_rows.proofs.Laws.{item_head, item_none}
use Rattle.types_rows.proofs.item_at.Goals as goal

pub returns-then-w-eq0 : goal.returns-then-w-eq0
returns-then-w-eq0 c = item_head _ _ _ _ _ _ _ c.narrow-w.ensures c.read_stack.ensures.0 (search) c.if-w-eq0.true c.head.ensures

pub returns-else-w-eq0 : goal.returns-else-w-eq0
returns-else-w-eq0 c = item_none _ _ _ _ _ _ _ c.narrow-w.ensures c.if-w-eq0.false
