use mathlib.Core.Path.{◌≡◌}
use Rattle.syntax.specs.Fault.{lowest_line}
use Rattle.types.specs.Rows.{rows_faults}
use Rattle.tables.specs.Tables.{rows_in}
use Rattle.types_rows.specs.Read.{tab}
use Rattle.types_pass_two.proofs.Laws.{rows_left}
use Rattle.types_rows.specs.size.Size.{Measured}
use Rattle.types_pass_two.proofs.rows_fault.Given as goal

abbrev pub invariant-loop-r : goal.invariant-loop-r
invariant-loop-r l =
    (rows_left (tab l.rows l.parts) l.n l.r ≡ lowest_line 1 (rows_faults (rows_in (tab l.rows l.parts) l.n) 0 (rows_in (tab l.rows l.parts) l.n))) × Measured (tab l.rows l.parts) l.sizes
