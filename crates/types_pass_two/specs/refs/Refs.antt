-- What the public functions promise is said with these: the faults that stand on lines, the answer, where blocks start.
use Rattle.std.specs.Prelude.{ℕ, suc, ◌≤◌, ◌<◌, ◌≡◌, List, [], Option as CodeOption, Some, None}
use Rattle.std.proofs.Math.Option.{Option, none, some}
use Rattle.syntax.specs.Fault.{Pass, Refusal}
use Rattle.text.specs.Entries.{entries_in}
use Rattle.tables.specs.Tables.{cell, RowTable, rows_in, OperandTable, blocks_from}
use Rattle.types.specs.Rows.{entries_faults}
use Rattle.faults.specs.declared.LineFault.{LineFault}
use Rattle.faults.specs.Numbers.{number}

-- ---- faults
-- the faults of all lines behind n type lines: nb blocks and ni instructions
abbrev pub code_faults : RowTable → ℕ → List ℕ → ℕ → List ℕ → ℕ → OperandTable → Pass
code_faults τ n β nb ι ni ω = entries_faults (rows_in τ n) nb (entries_in [] (blocks_from β ι ω ni 0 nb))

-- ---- the answer
-- the refusal for a fault on a line; such faults name no items
abbrev pub refusal_of : CodeOption LineFault → Option Refusal
refusal_of None = none
refusal_of (Some f) = some (record { number = number f.fault; line = f.line; item = none })

-- ---- blocks
-- the starts of nb blocks rise from 0
pub record Rising (β : List ℕ) (nb : ℕ) : Type 0 where
  pub first : 0 < nb → cell 2 β 0 1 ≡ 0
  pub rise : (b : ℕ) → suc b < nb → cell 2 β b 1 ≤ cell 2 β (suc b) 1
