-- The answers of decoding, the place behind a line, and the fault of a line.
use Rattle.std.specs.Prelude.{ℕ, Bool, true, false, not, cond, leb, Option, Some, None, Result, Ok, Err}
use Rattle.faults.specs.declared.Fault.{Fault}
use Rattle.faults.specs.declared.Fault.TheVariants.{Misplaced, TooMany}
use Rattle.image.specs.declared.Counts.{Counts}
use Rattle.text_decode.specs.declared.store.Used.{Used}
use Rattle.text_decode.specs.declared.store.Line.{Line}
use Rattle.text_decode.specs.declared.store.Line.TheVariants.{Row, Block, Instruction, Last}
use Rattle.text_decode.specs.declared.state.Unread.{Unread}
use Rattle.text_decode.specs.declared.state.Unread.TheVariants.{Faulty}
use Rattle.text_decode.specs.declared.state.Place.{Place}
use Rattle.text_decode.specs.declared.state.Place.TheVariants.{TypeLines, InBlock, BehindBlock}

-- before the first line
abbrev pub none_used : Used
none_used = record { rows = 0; blocks = 0; instrs = 0; operands = 0; args = 0 }

-- the answer that names a fault on a line
abbrev pub faulty : Fault → ℕ → Result Counts Unread
faulty f line = Err (Faulty (record { fault = f; line = line }))

-- how much is counted of what is in use
abbrev pub counts_in : Used → Counts
counts_in u = record { rows = u.rows; blocks = u.blocks; instrs = u.instrs }

-- ---- the place of a line
-- it stands among the type lines
abbrev pub among_types : Place → Bool
among_types TypeLines = true
among_types InBlock = false
among_types BehindBlock = false

-- it stands in a block that has not ended
abbrev pub inside_block : Place → Bool
inside_block TypeLines = false
inside_block InBlock = true
inside_block BehindBlock = false

-- the place behind a line
abbrev pub place_behind : Line → Place
place_behind Row = TypeLines
place_behind Block = InBlock
place_behind (Instruction n m) = InBlock
place_behind (Last n m) = BehindBlock

-- at the end of the text, at a place and with what is in use there
abbrev pub last_read : Place → ℕ → Used → Result Counts Unread
last_read place line u = cond (inside_block place) (faulty Misplaced line) (Ok (counts_in u))

-- ---- a line's fault
-- out of order, or where no place is left
abbrev pub fault_of : Bool → Bool → Option Fault
fault_of in_order full = cond in_order (cond full (Some TooMany) None) (Some Misplaced)

-- the fault of a line of some form that stands at p, with what is in use before it
abbrev pub line_fault : Line → Place → Used → Option Fault
line_fault Row p u = fault_of (among_types p) (leb 512 u.rows)
line_fault Block p u = fault_of (not (inside_block p)) (leb 64 u.blocks)
line_fault (Instruction n m) p u = fault_of (inside_block p) (leb 1024 u.instrs)
line_fault (Last n m) p u = fault_of (inside_block p) (leb 1024 u.instrs)
