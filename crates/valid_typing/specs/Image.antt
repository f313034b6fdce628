-- What pass three reads, in one image: its tables are the image's sections, the rows' as the checker shares them.
use Rattle.std.specs.Prelude.{ℕ, ◌+◌, ◌*◌, ◌≤◌, List, length}
use Rattle.syntax.specs.Syntax.{Kind, Operand, Instr}
use Rattle.types.specs.Types.{Arg}
use Rattle.tables.specs.Tables.{RowTable, OperandTable, operand_at, operands_at, instr_at}
use Rattle.valid.specs.Program.{Program}
use Rattle.image.specs.declared.Places.{Places}
use Rattle.image.specs.declared.Counts.{Counts}
use Rattle.image.specs.Sections.{Ordered, block_section, instr_section, operand_section, arg_section, use_section, top_section, shared_section, slot_section}
use Rattle.types_rows.specs.Read.{tab}
use Rattle.valid_scope.specs.Scoped.{Scoped}
use Rattle.valid_scope.specs.Letters.{letters_of}
use Rattle.valid_scope.specs.declared.BlockLetters.{BlockLetters}
use Rattle.valid_context.specs.Context.{Reading}
use Rattle.valid_context.specs.premises.Answers.{Holds}
use Rattle.valid_typing.specs.Typing.{types_in, held_in, Ready}
use Rattle.valid_typing.specs.operands.Operands.{operand_table}
use Rattle.valid_typing.specs.declared.Listed.{Listed}

-- the table of the rows
abbrev pub row_table : Places → List ℕ → RowTable
row_table p l = tab (shared_section p l) (slot_section p l)

-- the types of its n rows, and of the two made ones
abbrev pub types_at : Places → List ℕ → ℕ → List Arg
types_at p l n = types_in (shared_section p l) (slot_section p l) n

-- what held numbers stand for, E being the environments of the packages opened so far
abbrev pub read_at : Places → List ℕ → ℕ → List ℕ → Reading
read_at p l n E = held_in (shared_section p l) (slot_section p l) n E

abbrev pub ReadyAt : Places → List ℕ → ℕ → Type 0
ReadyAt p l n = Ready (shared_section p l) (slot_section p l) n

-- the rows' uses of variables
abbrev pub ScopedAt : Places → List ℕ → ℕ → Type 0
ScopedAt p l n = Scoped (row_table p l) n (use_section p l) (top_section p l)

-- the sections in order, their n rows and the rows' uses of variables, with room for what a comparison keeps pending
pub record Prepared (p : Places) (image : List ℕ) (n : ℕ) (pending : List ℕ) : Type 0 where
  pub ordered : Ordered p (length image)
  pub ready : ReadyAt p image n
  pub scoped : ScopedAt p image n
  pub room : 1543 ≤ length pending

-- the sections in order, their n rows, and few packages opened so far
pub record PlainIn (p : Places) (image : List ℕ) (n : ℕ) (E : List ℕ) : Type 0 where
  pub ordered : Ordered p (length image)
  pub ready : ReadyAt p image n
  pub few : length E ≤ 64

-- the operands, with the literals
abbrev pub operands_in : Places → List ℕ → List ℕ → OperandTable
operands_in p l literals = operand_table (operand_section p l) literals (arg_section p l)

-- operand v, and operands that are listed
abbrev pub operand_in : Places → List ℕ → List ℕ → ℕ → Operand
operand_in p l literals v = operand_at (operands_in p l literals) v

abbrev pub listed_in : Places → List ℕ → List ℕ → Listed → List Operand
listed_in p l literals o = operands_at (operands_in p l literals) o.first o.count

-- operands that are listed stand within the table, and are as few as a row's parts
pub record ListedWithin (o : Listed) : Type 0 where
  pub last : o.first + o.count ≤ 131072
  pub few : o.count ≤ 65535

-- they stand within the table, and a list has room for a row and an environment of each
pub record ListedInto (o : Listed) (found : List ℕ) : Type 0 where
  pub last : o.first + o.count ≤ 131072
  pub few : o.count ≤ 65535
  pub room : 2 * o.count ≤ length found

-- instruction i
abbrev pub instr_in : Places → List ℕ → List ℕ → ℕ → Instr
instr_in p l literals i = instr_at (instr_section p l) (operands_in p l literals) i

-- P has these rows and blocks
abbrev pub HoldsAt : Places → List ℕ → Counts → Program → Type 0
HoldsAt p l c P = Holds (row_table p l) c.rows (block_section p l) c.blocks P

-- the letters in force: the hidden variables', then the block's
abbrev pub letters_in : Places → List ℕ → BlockLetters → List Kind
letters_in p l w = letters_of (slot_section p l) w
