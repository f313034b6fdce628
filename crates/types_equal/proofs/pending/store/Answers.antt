use Rattle.types_equal.proofs.pending.Sides.{side_set, side_still}
use Rattle.types_equal.proofs.pending.store.Goals as goal

pub returns : goal.returns
returns c = (side_set _ _ _ _ _ (search), side_still _ _ _ _ (search))
