use Rattle.types_rows.proofs.Laws.{found_next, down_step}
use Rattle.types_rows.proofs.narrow.Goals as goal

pub loop-lower-smaller : goal.loop-lower-smaller
loop-lower-smaller c =
    (down_step _ _ _ _ _ c.requires.1 c.loop-lower.invariant.0 c.in-Some.lower.row c.in-Some.lower.at c.one_down.ensures c.in-Some.is).0

pub loop-lower-preserved : goal.loop-lower-preserved
loop-lower-preserved c =
    found_next _ _ _ _ _ _ c.in-Some.lower.row c.in-Some.lower.at c.requires.1 c.loop-lower.invariant c.one_down.ensures c.in-Some.is
