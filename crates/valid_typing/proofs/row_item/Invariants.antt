use Rattle.types_rows.specs.Read.{tab, mean_s}
use Rattle.valid_typing.proofs.Stacks.{RestItem}
use Rattle.valid_typing.proofs.row_item.Given as goal

abbrev pub invariant-loop-j : goal.invariant-loop-j
invariant-loop-j l = RestItem l.rows l.parts l.n l.x (mean_s (tab l.rows l.parts) l.x) l.i l.j
