use Rattle.std.proofs.Common.{◌+◌, ◌*◌}
use Rattle.types_rows.specs.Read.{tab}
use Rattle.types_rows.proofs.size.Laws.{Spending}
use Rattle.types_rows.proofs.size.+spend_parts_spend_row_spend_stack_spend_value.Given as goal

abbrev pub invariant-spend_parts-loop-i : goal.invariant-spend_parts-loop-i
invariant-spend_parts-loop-i l = Spending (tab l.rows l.parts) l.file l.h l.p l.n l.left l.rest l.i

abbrev pub decreases-spend_parts : goal.decreases-spend_parts
decreases-spend_parts l = 131072 * l.h

abbrev pub decreases-spend_row : goal.decreases-spend_row
decreases-spend_row l = 131072 * l.h + 131071

abbrev pub decreases-spend_stack : goal.decreases-spend_stack
decreases-spend_stack l = 131072 * l.h + 70000

abbrev pub decreases-spend_value : goal.decreases-spend_value
decreases-spend_value l = 131072 * l.h + 70000
