-- The tables of a decoded text, and how much of them is in use.
use Rattle.std.specs.Prelude.{ℕ, ◌+◌, ◌*◌, ◌≤◌, ◌≡◌, List, length, take}
use Rattle.tables.specs.Tables.{RowTable, OperandTable}
use Rattle.image.specs.declared.Places.{Places}
use Rattle.image.specs.Sections.{Ordered, row_section, block_section, instr_section, part_section, operand_section, arg_section}
use Rattle.image.specs.Layout.{places_of}
use Rattle.text_decode.specs.line.Answers.{OperandRoom, SameOperands}
use Rattle.text_decode.specs.declared.store.Used.{Used}

-- all tables of a decoded text
pub record Store : Type 0 where
  pub rows : List ℕ
  pub parts : List ℕ
  pub operands : List ℕ
  pub numbers : List ℕ
  pub args : List ℕ
  pub instrs : List ℕ
  pub blocks : List ℕ

-- the tables, as the functions are lent them
abbrev pub store : List ℕ → List ℕ → List ℕ → List ℕ → List ℕ → List ℕ → List ℕ → Store
store rows parts operands numbers args instrs blocks =
    record { rows = rows; parts = parts; operands = operands; numbers = numbers; args = args; instrs = instrs; blocks = blocks }

-- its rows and their parts
abbrev pub row_table : Store → RowTable
row_table σ = record { rows = σ.rows; parts = σ.parts }

-- its operands, their numbers and their arguments
abbrev pub operands_of : Store → OperandTable
operands_of σ = record { operands = σ.operands; numbers = σ.numbers; args = σ.args }

-- the tables in an image whose sections stand at these places
abbrev pub store_in : Places → List ℕ → List ℕ → Store
store_in p image numbers =
    store (row_section p image) (part_section p image) (operand_section p image) numbers (arg_section p image) (instr_section p image) (block_section p image)

-- the same, at the places that its length gives
abbrev pub stored : List ℕ → List ℕ → Store
stored image numbers = store_in (places_of (length image)) image numbers

-- Room for one line more behind what is in use. Row r's parts stand from 17 r on, and an instruction has at most 16 operands with at most
-- eight arguments each.
pub record RoomFor (u : Used) (σ : Store) : Type 0 where
  pub rows : 4 * (u.rows + 1) ≤ length σ.rows
  pub parts : 17 * (u.rows + 1) ≤ length σ.parts
  pub operands : OperandRoom (u.operands + 16) (u.args + 128) (length σ.operands) (length σ.numbers) (length σ.args)
  pub instrs : 8 * (u.instrs + 1) ≤ length σ.instrs
  pub blocks : 2 * (u.blocks + 1) ≤ length σ.blocks

-- an image with its sections at these places has room for what a line's fields say: a row's parts, an instruction's operands
pub record FieldRoom (p : Places) (image numbers : List ℕ) (u : Used) : Type 0 where
  pub ordered : Ordered p (length image)
  pub parts : 17 * (u.rows + 1) ≤ length (part_section p image)
  pub operands : OperandRoom (u.operands + 16) (u.args + 128) (length (operand_section p image)) (length numbers) (length (arg_section p image))

-- it has room for the line itself: a row, an instruction or a block
pub record EntryRoom (p : Places) (image : List ℕ) (u : Used) : Type 0 where
  pub ordered : Ordered p (length image)
  pub rows : 4 * (u.rows + 1) ≤ length (row_section p image)
  pub instrs : 8 * (u.instrs + 1) ≤ length (instr_section p image)
  pub blocks : 2 * (u.blocks + 1) ≤ length (block_section p image)

-- Room for one row, one block and one instruction more than document 01 allows: a line is read before its place is looked at. A text of at
-- most 65,536 bytes carries at most 32,768 arguments, since each takes two bytes. So every text has room.
pub record Room (σ : Store) : Type 0 where
  pub rows : 4 * 513 ≤ length σ.rows
  pub parts : 17 * 513 ≤ length σ.parts
  pub operands : 4 * 16400 ≤ length σ.operands
  pub numbers : 16400 ≤ length σ.numbers
  pub args : 32896 ≤ length σ.args
  pub instrs : 8 * 1025 ≤ length σ.instrs
  pub blocks : 2 * 65 ≤ length σ.blocks

-- that room in every image with its sections at these places, with n numbers
abbrev pub Plenty : Places → ℕ → Type 0
Plenty p n = (l ns : List ℕ) → Ordered p (length l) → length ns ≡ n → Room (store_in p l ns)

-- "At most 512 rows, 64 blocks, 1,024 instructions." An instruction has at most 16 operands; of arguments a text carries half its bytes.
pub record Few (u : Used) : Type 0 where
  pub rows : u.rows ≤ 512
  pub blocks : u.blocks ≤ 64
  pub instrs : u.instrs ≤ 1024
  pub operands : u.operands ≤ 16 * u.instrs
  pub args : u.args ≤ 32768

-- the entries in use are the same
pub record Same (u : Used) (σ π : Store) : Type 0 where
  pub rows : take (4 * u.rows) σ.rows ≡ take (4 * u.rows) π.rows
  pub parts : take (17 * u.rows) σ.parts ≡ take (17 * u.rows) π.parts
  pub operands : SameOperands u.operands u.args (operands_of σ) (operands_of π)
  pub instrs : take (8 * u.instrs) σ.instrs ≡ take (8 * u.instrs) π.instrs
  pub blocks : take (2 * u.blocks) σ.blocks ≡ take (2 * u.blocks) π.blocks
