-- The tables that the functions of this crate read, and a base that carries arguments.
use Rattle.std.specs.Prelude.{ℕ, ◌<◌, ◌≤◌, List}
use Rattle.tables.specs.Tables.{OperandTable}
use Rattle.valid_typing.specs.declared.operands.BaseArgs.{BaseArgs}

-- the three lists as a table of operands
abbrev pub operand_table : List ℕ → List ℕ → List ℕ → OperandTable
operand_table operands numbers args = record { operands = operands; numbers = numbers; args = args }

-- the numbers of a base and of where its arguments start, and the resulting row, are small
pub record BaseIn (o : BaseArgs) : Type 0 where
  pub number : o.number ≤ 4294967295
  pub first : o.first ≤ 65535
  pub row : o.row ≤ 65535

-- a base that is not packed carries one to eight arguments
pub record Carries (o : BaseArgs) : Type 0 where
  pub some : o.kind < 4 → 0 < o.count
  pub few : o.kind < 4 → o.count ≤ 8
