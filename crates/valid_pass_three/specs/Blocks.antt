-- The lines of a block, and block b of the tables.
use Rattle.std.specs.Prelude.{ℕ, ◌-◌, ◌≤◌, ◌<◌, ◌≡◌, Bool, List, ◌∷◌}
use Rattle.syntax.specs.Syntax.{value}
use Rattle.syntax.specs.Fault.{Pass}
use Rattle.text.specs.PassOne.{Listing}
use Rattle.types.specs.Types.{Arg}
use Rattle.types.specs.Rows.{type_at, types_of}
use Rattle.tables.specs.Tables.{cell, OperandTable, rows_in, instrs_from, blocks_from}
use Rattle.tables.proofs.Steps.{end_of}
use Rattle.image.specs.declared.Places.{Places}
use Rattle.image.specs.declared.Counts.{Counts}
use Rattle.image.specs.Sections.{block_section, instr_section}
use Rattle.valid.specs.Program.{Block, Program, block_of}
use Rattle.valid.specs.Rules.{at_start}
use Rattle.valid.specs.PassThree.{holds, body_faults, block_faults}
use Rattle.valid.specs.Bounds.{SmallInstr}
use Rattle.valid_typing.specs.Image.{row_table, operands_in, instr_in}

-- a block's line, and its instructions' lines
abbrev pub block_pass : Program → Bool → Block → Pass
block_pass P first B = block_faults first B ∷ body_faults P B.letters (holds (at_start B)) B.body

-- block b of nb, T being the types of the rows
abbrev pub the_block : List Arg → List ℕ → List ℕ → OperandTable → ℕ → ℕ → ℕ → Block
the_block T β ι ω ni nb b = block_of (type_at value T (cell 2 β b 0)) (instrs_from ι ω (cell 2 β b 1) (end_of β ni nb b - cell 2 β b 1))

-- block b of an image
abbrev pub block_in : Places → List ℕ → List ℕ → Counts → ℕ → Block
block_in p l literals c b = the_block (types_of (rows_in (row_table p l) c.rows)) (block_section p l) (instr_section p l) (operands_in p l literals) c.instrs c.blocks b

-- its blocks
abbrev pub blocks_in : Places → List ℕ → List ℕ → Counts → List Listing
blocks_in p l literals c = blocks_from (block_section p l) (instr_section p l) (operands_in p l literals) c.instrs 0 c.blocks

-- the instructions that c counts have small numbers, and block b ends within them
pub record BlockWithin (p : Places) (image literals : List ℕ) (c : Counts) (b : ℕ) : Type 0 where
  pub small : (i : ℕ) → i < c.instrs → SmallInstr (instr_in p image literals i)
  pub instrs : c.instrs ≤ 1024
  pub number : b ≤ 64
  pub end : end_of (block_section p image) c.instrs c.blocks b ≤ c.instrs

-- the same of each block, and they have the instructions one behind the other
pub record BlocksWithin (p : Places) (image literals : List ℕ) (c : Counts) : Type 0 where
  pub small : 0 < c.blocks → (i : ℕ) → i < c.instrs → SmallInstr (instr_in p image literals i)
  pub instrs : c.instrs ≤ 1024
  pub blocks : c.blocks ≤ 64
  pub first : 0 < c.blocks → cell 2 (block_section p image) 0 1 ≡ 0
  pub ends : (b : ℕ) → b < c.blocks → (cell 2 (block_section p image) b 1 ≤ end_of (block_section p image) c.instrs c.blocks b)
      × (end_of (block_section p image) c.instrs c.blocks b ≤ c.instrs)
