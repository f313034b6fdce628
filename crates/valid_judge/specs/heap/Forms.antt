-- What is promised of the instructions that leave sp alone.
use Rattle.std.specs.Prelude.{ℕ, ◌*◌, ◌≡◌, List, length, Result}
use Rattle.syntax.specs.Syntax.{Kind, stack, Instr}
use Rattle.types.specs.Types.{Ty}
use Rattle.types.specs.Rows.{types_of}
use Rattle.tables.specs.Tables.{rows_in}
use Rattle.valid.specs.Program.{Program}
use Rattle.valid.specs.Rules.{Context}
use Rattle.valid.specs.PassThree.{judge}
use Rattle.types_rows.specs.Read.{tab}
use Rattle.valid_context.specs.Context.{regs_of, EnvsIn}
use Rattle.faults.specs.declared.Fault.{Fault}
use Rattle.valid_context.specs.Told.{told_of, told}
use Rattle.valid_typing.specs.Typing.{held_in}

-- Γ from sp and the registers
abbrev pub held : Ty stack → Ty stack → Context
held s g = record { sp = s; regs = g }

-- the code's answer r to instruction x, with registers γ before it: its least fault, or registers γ' after it, whatever sp is; E are the
-- environments of the packages opened so far
abbrev pub InRegs : List ℕ → List ℕ → ℕ → List ℕ → List Kind → List ℕ → List ℕ → Result (Unit {0}) Fault → Instr → Type 0
InRegs rows parts n E Δ γ γ' r x =
    (P : Program) (s : Ty stack) → P.types ≡ types_of (rows_in (tab rows parts) n)
    → told_of (judge P Δ (held s (regs_of (held_in rows parts n E) γ)) x) ≡ told (λ u. held s (regs_of (held_in rows parts n E) γ')) r

-- the environments of the registers still exist
abbrev pub KeptRegs : List ℕ → List ℕ → List ℕ → Type 0
KeptRegs E γ γ' = EnvsIn (2 * length E) γ 8 → EnvsIn (2 * length E) γ' 8
