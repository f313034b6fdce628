-- What reading a line leaves in the tables.
use Rattle.std.specs.Prelude.{ℕ, ◌+◌, ◌-◌, ◌*◌, ◌≤◌, ◌≡◌, Bool, true, false, cond, Option as Maybe, Some, None, List, [], ◌∷◌, eqb, ltb, length}
use Rattle.std.proofs.Math.Option.{Option, none, some}
use Rattle.std.proofs.lemmas.List.Edits.{sets}
use Rattle.syntax.specs.Syntax.{Entry, row, block, instr}
use Rattle.text.specs.Bytes.{fields_of}
use Rattle.text.specs.Grammar.{entry_of}
use Rattle.text.specs.PassOne.{is_last}
use Rattle.tables.specs.Tables.{cell, row_at, instr_at}
use Rattle.text_lines.specs.Parts.{line_in}
use Rattle.text_decode.specs.line.Answers.{Through}
use Rattle.text_decode.specs.declared.line.Said.{Said}
use Rattle.text_decode.specs.store.Store.{Store, row_table, operands_of, Same}
use Rattle.text_decode.specs.declared.store.Used.{Used}
use Rattle.text_decode.specs.declared.store.Line.{Line}
use Rattle.text_decode.specs.declared.store.LineRead.{LineRead}
use Rattle.text_decode.specs.declared.store.Line.TheVariants.{Row, Block, Instruction, Last}

-- what the text from f on says goes to the end of its first line, and its arguments stand in it
abbrev pub RestThrough : List ℕ → ℕ → Maybe Said → Type 0
RestThrough text f None = Unit
RestThrough text f (Some s) = Through text s.args (f + s.next)

-- ---- what a line adds
-- how many operands it has
abbrev pub operand_count : Line → ℕ
operand_count Row = 0
operand_count Block = 0
operand_count (Instruction n m) = n
operand_count (Last n m) = n

-- how many arguments they carry
abbrev pub arg_count : Line → ℕ
arg_count Row = 0
arg_count Block = 0
arg_count (Instruction n m) = m
arg_count (Last n m) = m

-- what is in use after it
abbrev pub used_after : Used → Line → Used
used_after u Row = record { rows = u.rows + 1; blocks = u.blocks; instrs = u.instrs; operands = u.operands; args = u.args }
used_after u Block = record { rows = u.rows; blocks = u.blocks + 1; instrs = u.instrs; operands = u.operands; args = u.args }
used_after u (Instruction n m) = record { rows = u.rows; blocks = u.blocks; instrs = u.instrs + 1; operands = u.operands + n; args = u.args + m }
used_after u (Last n m) = record { rows = u.rows; blocks = u.blocks; instrs = u.instrs + 1; operands = u.operands + n; args = u.args + m }

-- what the tables say of it, at the first places that were not in use
abbrev pub says : Used → Line → Store → Entry
says u Row σ = row (row_at (row_table σ) u.rows)
says u Block σ = block (cell 2 σ.blocks u.blocks 0)
says u (Instruction n m) σ = instr (instr_at σ.instrs (operands_of σ) u.instrs)
says u (Last n m) σ = instr (instr_at σ.instrs (operands_of σ) u.instrs)

-- it ends a block
abbrev pub ends : Line → Bool
ends Row = false
ends Block = false
ends (Instruction n m) = false
ends (Last n m) = true

-- what is said is a block's last instruction
abbrev pub ends_block : Option Entry → Bool
ends_block none = false
ends_block (some (row r)) = false
ends_block (some (block c)) = false
ends_block (some (instr x)) = is_last x

-- an instruction's operands are those behind the operands in use
abbrev pub Listed : Used → Store → Line → Type 0
Listed u σ Row = Unit
Listed u σ Block = Unit
Listed u σ (Instruction n m) = cell 8 σ.instrs u.instrs 5 + cell 8 σ.instrs u.instrs 6 ≡ u.operands + n
Listed u σ (Last n m) = cell 8 σ.instrs u.instrs 5 + cell 8 σ.instrs u.instrs 6 ≡ u.operands + n

-- l is what `line` says, in `after`; the entries that were in use before are kept. What is said stays as long as the entries in use do.
pub record LineIs (line : List ℕ) (u : Used) (before after : Store) (l : Line) : Type 0 where
  pub kept : Same u after before
  pub few : operand_count l ≤ 16
  pub carried : 2 * arg_count l ≤ length line
  pub said : (σ : Store) → Same (used_after u l) σ after → some (says u l σ) ≡ entry_of (fields_of line)
  pub last : ends l ≡ ends_block (entry_of (fields_of line))
  pub starts : l ≡ Block → cell 2 after.blocks u.blocks 1 ≡ u.instrs
  pub listed : Listed u after l

-- the line is of no form; the entries that were in use before are kept
pub record NoForm (line : List ℕ) (u : Used) (before after : Store) : Type 0 where
  pub kept : Same u after before
  pub said : none ≡ entry_of (fields_of line)

-- the line is of some form, and ends there
pub record OfForm (line : List ℕ) (u : Used) (before after : Store) (r : LineRead) : Type 0 where
  pub is : LineIs line u before after r.line
  pub ends : r.next ≡ length line

-- what the first line of a text is read as
abbrev pub ReadAs : List ℕ → Used → Store → Store → Maybe LineRead → Type 0
ReadAs text u before after None = NoForm (line_in text) u before after
ReadAs text u before after (Some r) = OfForm (line_in text) u before after r

-- ---- what is stored of a line of the form at place `code`
-- the rows, with it as the next one if it is a type line
abbrev pub row_put : ℕ → Said → Used → List ℕ → List ℕ
row_put code s u rows = cond (ltb code 11) (sets rows (4 * u.rows) (code ∷ s.a ∷ s.b ∷ [])) rows

-- the blocks, with it as the next one if it is a block's line
abbrev pub block_put : ℕ → Said → Used → List ℕ → List ℕ
block_put code s u blocks = cond (eqb code 11) (sets blocks (2 * u.blocks) (s.a ∷ u.instrs ∷ [])) blocks

-- the instructions, with it as the next one if it is an instruction
abbrev pub instr_put : ℕ → Said → Used → List ℕ → List ℕ
instr_put code s u instrs =
    cond (ltb 11 code) (sets instrs (8 * u.instrs) ((code - 12) ∷ s.a ∷ s.b ∷ s.c ∷ s.d ∷ u.operands ∷ s.count ∷ [])) instrs

-- which kind of line it is, with n operands that carry m arguments: `jmp` 33 and `halt` 34 end a block
abbrev pub line_of : ℕ → ℕ → ℕ → Line
line_of code n m =
    cond (ltb code 11) Row (cond (eqb code 11) Block (cond (ltb code 33) (Instruction n m) (cond (ltb code 35) (Last n m) (Instruction n m))))

-- the tables after it, and which kind of line it is
pub record Stored (code : ℕ) (s : Said) (u : Used) (rows instrs blocks rows' instrs' blocks' : List ℕ) (l : Line) : Type 0 where
  pub row : rows' ≡ row_put code s u rows
  pub instr : instrs' ≡ instr_put code s u instrs
  pub block : blocks' ≡ block_put code s u blocks
  pub line : l ≡ line_of code s.count s.args
