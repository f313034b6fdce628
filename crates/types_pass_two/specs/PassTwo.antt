-- The faults of one row.
use Rattle.std.specs.Prelude.{ℕ, List}
use Rattle.syntax.specs.Fault.{Fault}
use Rattle.types.specs.Rows.{sizes_of}
use Rattle.types.proofs.PassTwo.{row_faults_by}
use Rattle.tables.specs.Tables.{RowTable, row_at, rows_in}

-- those of row r, by the rows before it
abbrev pub faults_at : RowTable → ℕ → List Fault
faults_at τ r = row_faults_by (rows_in τ r) (sizes_of (rows_in τ r)) (row_at τ r)
