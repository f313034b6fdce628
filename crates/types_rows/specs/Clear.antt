-- Rows of a table that pass two finds no fault with.
use Rattle.std.specs.Prelude.{ℕ}
use Rattle.syntax.specs.Fault.{Clear}
use Rattle.types.specs.Rows.{rows_faults}
use Rattle.tables.specs.Tables.{RowTable, rows_in}

-- the first n rows have no fault in pass two
abbrev pub RowsClear : RowTable → ℕ → Type 0
RowsClear τ n = Clear (rows_faults (rows_in τ n) 0 (rows_in τ n))
