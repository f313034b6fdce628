use Rattle.types_rows.specs.Read.{tab}
use Rattle.types_rows.proofs.Laws.{Found}
use Rattle.types_rows.proofs.narrow.Given as goal

abbrev pub invariant-loop-lower : goal.invariant-loop-lower
invariant-loop-lower l = Found (tab l.rows l.parts) l.r l.j l.n l.place.row l.place.at

abbrev pub decreases-loop-lower : goal.decreases-loop-lower
decreases-loop-lower l = l.place.row
