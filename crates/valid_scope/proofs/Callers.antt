-- A law for callers: where the premises of `find_all` come from.
use Prim.Native.Nat.{ℕ, ◌<◌}
use native.Mathlib.Omega.{arith}
use Rattle.syntax.specs.Syntax.{row_i}
use Rattle.types.proofs.Meaning.{rows_clear}
use Rattle.tables.specs.Tables.{RowTable, row_at, rows_in}
use Rattle.types_rows.specs.Clear.{RowsClear}
use Rattle.tables.proofs.Steps.{length_rows}
use Rattle.valid_scope.specs.Scoped.{SmallVariable, Checked}
use Rattle.valid_scope.proofs.Rows.{row_get_d, rows_take}

-- what pass one (variables at most 63) and pass two (no fault) have seen
pub checked : (τ : RowTable) (n : ℕ) → RowsClear τ n → ((r : ℕ) → r < n → SmallVariable (row_at τ r)) → (r : ℕ) → r < n → Checked τ r
checked τ n c v r h =
    let l = length_rows τ n in
    let s = rows_clear (rows_in τ n) c r row_i (omega arith) in
    let e = row_get_d τ n r row_i h in
    record {
      small = v r h;
      lower = rw e at s.0;
      sorts = rw (rows_take τ 0 n r (omega arith), e) at s.1;
    }
