use Rattle.valid_scope.proofs.variables.Laws.{in_hidden, in_letters}
use Rattle.valid_scope.proofs.in_block.Goals as goal

pub returns-then-k-w : goal.returns-then-k-w
returns-then-k-w c = in_hidden c.args.parts.now c.args.w _ _ (search) c.is_value.ensures

pub returns-else-k-w : goal.returns-else-k-w
returns-else-k-w c = in_letters c.args.parts.now c.args.w _ _ (search) c.is_bound.ensures
