use mathlib.Core.Path.{sym, ◌∙◌}
use Rattle.types_pass_two.proofs.Laws.{at_row, behind_rows, measured_none}
use Rattle.types_pass_two.proofs.pass_two.Goals as goal

pub rows_fault-found-requires : goal.rows_fault-found-requires
rows_fault-found-requires c = (search, measured_none _ 513)

pub returns-then-is_some : goal.returns-then-is_some
returns-then-is_some c = at_row _ _ _ _ _ c.rows_fault-found.ensures (sym c.is_some.ensures ∙ c.if-is_some.true)

pub returns : goal.returns
returns c = behind_rows _ _ _ _ _ _ c.rows_fault-found.ensures (sym c.is_some.ensures ∙ c.if-is_some.false) (c.code_fault.ensures _)
