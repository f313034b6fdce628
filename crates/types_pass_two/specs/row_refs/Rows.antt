-- The faults of what a row names.
use Rattle.std.specs.Prelude.{ℕ, List}
use Rattle.syntax.specs.Fault.{Fault}
use Rattle.tables.specs.Tables.{RowTable, row_at, rows_in}
use Rattle.types.specs.Rows.{row_refs, refs_faults}

-- the faults 4 and 5 of row r, by the rows before it
abbrev pub row_refs_faults : RowTable → ℕ → List Fault
row_refs_faults τ r = refs_faults (rows_in τ r) (row_refs (row_at τ r))
