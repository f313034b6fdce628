-- What decoding a text answers, and what it leaves in the tables.
use Rattle.std.specs.Prelude.{ℕ, suc, ◌+◌, ◌*◌, ◌≤◌, ◌<◌, ◌≡◌, Bool, true, false, List, length, Result, Ok, Err}
use Rattle.std.proofs.Math.Option.{Option, none, some}
use Rattle.faults.specs.declared.LineFault.{LineFault}
use Rattle.faults.specs.Numbers.{number}
use Rattle.syntax.specs.Fault.{Refusal, lowest_line}
use Rattle.text.specs.PassOne.{at_rows, in_block, behind_block, pass_one, entries_of, rows_of, listings_of}
use Rattle.text.specs.PassOne as one
use Rattle.tables.specs.Tables.{cell, rows_in, blocks_from}
use Rattle.image.specs.declared.Counts.{Counts}
use Rattle.text_decode.specs.store.Store.{Store, row_table, operands_of}
use Rattle.text_decode.specs.declared.state.Unread.{Unread}
use Rattle.text_decode.specs.declared.state.Unread.TheVariants.{Unfit, Faulty}
use Rattle.text_decode.specs.declared.state.Place.{Place}
use Rattle.text_decode.specs.declared.state.Place.TheVariants.{TypeLines, InBlock, BehindBlock}

-- ---- an answer about a text: something, or why the text is not read
-- whether the text fits the image
abbrev pub fits : {A : Type 0} → Result A Unread → Bool
fits (Ok x) = true
fits (Err Unfit) = false
fits (Err (Faulty f)) = true

-- a fault and its line, as a refusal
abbrev pub refusal_at : LineFault → Refusal
refusal_at f = record { number = number f.fault; line = f.line; item = none }

-- the fault that the answer names
abbrev pub refusal_of : {A : Type 0} → Result A Unread → Option Refusal
refusal_of (Ok x) = none
refusal_of (Err Unfit) = none
refusal_of (Err (Faulty f)) = some (refusal_at f)

-- the operands of instruction j stand in the tables: entry 5 says where they start, entry 6 how many they are
abbrev pub OperandsIn : Store → ℕ → Type 0
OperandsIn σ j =
    (cell 8 σ.instrs j 5 + cell 8 σ.instrs j 6 ≤ length σ.numbers) × (4 * (cell 8 σ.instrs j 5 + cell 8 σ.instrs j 6) ≤ length σ.operands)

-- The tables stand for the text. A block's second entry is where its instructions start: the first at 0, each later one behind an
-- instruction of the block before it.
pub record Decoded (text : List ℕ) (σ : Store) (r : Counts) : Type 0 where
  pub rows : rows_in (row_table σ) r.rows ≡ rows_of (entries_of text)
  pub blocks : blocks_from σ.blocks σ.instrs (operands_of σ) r.instrs 0 r.blocks ≡ listings_of (entries_of text)
  pub few_rows : r.rows ≤ 512
  pub few_blocks : r.blocks ≤ 64
  pub few_instrs : r.instrs ≤ 1024
  pub first : 0 < r.blocks → cell 2 σ.blocks 0 1 ≡ 0
  pub rising : (l : ℕ) → suc l < r.blocks → cell 2 σ.blocks l 1 < cell 2 σ.blocks (suc l) 1
  pub within : (l : ℕ) → l < r.blocks → cell 2 σ.blocks l 1 < r.instrs
  pub room_parts : 17 * r.rows ≤ length σ.parts
  pub room_instrs : 8 * r.instrs ≤ length σ.instrs
  pub room_operands : (j : ℕ) → j < r.instrs → OperandsIn σ j

-- A text may not fit the image that is lent for it. With `room` in it every text does, and where one fits there is the answer.
pub record Fitting (room : Type 0) (fits : Bool) (answer : Type 0) : Type 0 where
  pub enough : room → fits ≡ true
  pub answered : fits ≡ true → answer

-- r names the fault of pass one; where there is none, the tables stand for the text
pub record ReadIs (text : List ℕ) (σ : Store) (r : Result Counts Unread) : Type 0 where
  pub fault : refusal_of r ≡ lowest_line 0 (pass_one text)
  pub decoded : (c : Counts) → r ≡ Ok c → Decoded text σ c

-- the place of a line, as pass one has it
abbrev pub place_of : Place → one.Place
place_of TypeLines = at_rows
place_of InBlock = in_block
place_of BehindBlock = behind_block
