-- What pass three finds in the tables.
use Rattle.std.specs.Prelude.{ℕ, ◌+◌, ◌≤◌, ◌<◌, ◌≡◌, List, length}
use Rattle.tables.specs.Tables.{cell, row_at, rows_in}
use Rattle.types_rows.specs.Read.{tab, Counted}
use Rattle.image.specs.declared.Places.{Places}
use Rattle.image.specs.Sections.{block_section, instr_section, part_section, operand_section, arg_section}
use Rattle.valid_scope.specs.Scoped.{Scoped}

-- rows n and n + 1 are `I` and `N`; the text's n rows are as before; their counts and their uses of variables are right
pub record Prepared (before after parts : List ℕ) (n : ℕ) (uses tops : List ℕ) : Type 0 where
  pub few : n ≤ 512
  pub int_row : cell 4 after n 0 ≡ 0
  pub junk_row : cell 4 after (n + 1) 0 ≡ 1
  pub counted : Counted (tab after parts) (n + 2)
  pub scoped : Scoped (tab after parts) n uses tops
  pub row : (r : ℕ) → r < n → row_at (tab after parts) r ≡ row_at (tab before parts) r
  pub rows : rows_in (tab after parts) n ≡ rows_in (tab before parts) n

-- the other tables of a text are as before, in l' as in l
pub record Kept (p : Places) (l l' : List ℕ) : Type 0 where
  pub blocks : block_section p l' ≡ block_section p l
  pub instrs : instr_section p l' ≡ instr_section p l
  pub parts : part_section p l' ≡ part_section p l
  pub operands : operand_section p l' ≡ operand_section p l
  pub args : arg_section p l' ≡ arg_section p l
  pub size : length l' ≡ length l
