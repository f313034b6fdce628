-- What loading a text answers, and what it leaves in the tables.
use Rattle.std.specs.Prelude.{ℕ, suc, ◌+◌, ◌*◌, ◌≤◌, ◌<◌, ◌≡◌, List, length, Result, Ok}
use Rattle.syntax.specs.Fault.{lowest_line, or_else}
use Rattle.text.specs.PassOne.{pass_one, entries_of, rows_of, listings_of}
use Rattle.tables.specs.Tables.{cell, row_at, rows_in, instr_at, blocks_from}
use Rattle.types_rows.specs.Clear.{RowsClear}
use Rattle.types_rows.specs.Read.{Counted}
use Rattle.valid_scope.specs.Scoped.{Scoped}
use Rattle.valid.specs.Program.{program_of}
use Rattle.valid.specs.Verdict.{pass_two_of}
use Rattle.image.specs.Sections.{use_section, top_section}
use Rattle.image.specs.declared.Counts.{Counts}
use Rattle.image.specs.Layout.{places_of}
use Rattle.text_decode.specs.store.Store.{Store, row_table, operands_of, Room, stored}
use Rattle.text_decode.specs.Decoded.{refusal_of, OperandsIn}
use Rattle.text_decode.specs.declared.state.Unread.{Unread}
use Rattle.valid.specs.Bounds.{SmallRow, SmallInstr}
use Rattle.valid_context.specs.premises.Answers.{Holds}

-- room for what pass three reads of n rows: two rows more, and the variables of each row
pub record SpaceFor (n k u t : ℕ) : Type 0 where
  pub rows : 4 * n + 8 ≤ k
  pub uses : 64 * n ≤ u
  pub tops : n ≤ t

-- what was read is as much as pass two can count
pub record SmallRead (r : Counts) : Type 0 where
  pub rows : r.rows ≤ 65535
  pub blocks : r.blocks ≤ 65535
  pub instrs : r.instrs ≤ 65535

-- room for every text: as much as document 01 allows
pub record Space (σ : Store) (u t : ℕ) : Type 0 where
  pub room : Room σ
  pub rows : 4 * 514 ≤ length σ.rows
  pub uses : 64 * 512 ≤ u
  pub tops : 512 ≤ t

-- the uses of variables and their tops in an image, at the places that its length gives
abbrev pub uses_in : List ℕ → List ℕ
uses_in image = use_section (places_of (length image)) image

abbrev pub tops_in : List ℕ → List ℕ
tops_in image = top_section (places_of (length image)) image

-- an image and its numbers have room for every text
abbrev pub SpaceIn : List ℕ → List ℕ → Type 0
SpaceIn image numbers = Space (stored image numbers) (length (uses_in image)) (length (tops_in image))

-- ---- the tables of a text that passes one and two have passed
-- tables σ, uses and tops of the text, as counted in r
pub record IsLoaded (text : List ℕ) (σ : Store) (uses tops : List ℕ) (r : Counts) : Type 0 where
  -- what they stand for
  pub rows : rows_in (row_table σ) r.rows ≡ rows_of (entries_of text)
  pub blocks : blocks_from σ.blocks σ.instrs (operands_of σ) r.instrs 0 r.blocks ≡ listings_of (entries_of text)
  pub holds : Holds (row_table σ) r.rows σ.blocks r.blocks (program_of text)
  -- bounds
  pub few_rows : r.rows ≤ 512
  pub few_blocks : r.blocks ≤ 64
  pub few_instrs : r.instrs ≤ 1024
  pub small_rows : (x : ℕ) → x < r.rows → SmallRow (row_at (row_table σ) x)
  pub small_instrs : 0 < r.blocks → (j : ℕ) → j < r.instrs → SmallInstr (instr_at σ.instrs (operands_of σ) j)
  -- room in the tables
  pub space : SpaceFor r.rows (length σ.rows) (length uses) (length tops)
  pub room_parts : 17 * r.rows ≤ length σ.parts
  pub room_instrs : 8 * r.instrs ≤ length σ.instrs
  pub room_operands : (j : ℕ) → j < r.instrs → OperandsIn σ j
  -- where blocks start
  pub first : 0 < r.blocks → cell 2 σ.blocks 0 1 ≡ 0
  pub rising : (l : ℕ) → suc l < r.blocks → cell 2 σ.blocks l 1 < cell 2 σ.blocks (suc l) 1
  pub within : (l : ℕ) → l < r.blocks → cell 2 σ.blocks l 1 < r.instrs
  -- what pass two has seen
  pub clear : RowsClear (row_table σ) r.rows
  -- what pass three reads: rows `I` and `N` behind the text's, counts of items, uses of variables
  pub int_row : cell 4 σ.rows r.rows 0 ≡ 0
  pub junk_row : cell 4 σ.rows (r.rows + 1) 0 ≡ 1
  pub counted : Counted (row_table σ) (r.rows + 2)
  pub scoped : Scoped (row_table σ) r.rows uses tops

-- r names the fault of pass one, or else of pass two; where there is none, the tables are those of the text
pub record LoadIs (text : List ℕ) (σ : Store) (uses tops : List ℕ) (r : Result Counts Unread) : Type 0 where
  pub fault : refusal_of r ≡ or_else (lowest_line 0 (pass_one text)) (lowest_line 0 (pass_two_of text))
  pub loaded : (c : Counts) → r ≡ Ok c → IsLoaded text σ uses tops c
