-- What is promised of the instructions that take operands and leave sp alone.
use Rattle.std.specs.Prelude.{ℕ, suc, ◌*◌, ◌≡◌, List, [], ◌∷◌, ◌++◌, length, Result}
use Rattle.syntax.specs.Syntax.{Kind, value, stack, Instr}
use Rattle.types.specs.Types.{Ty}
use Rattle.valid.specs.Program.{Program}
use Rattle.valid.specs.PassThree.{judge}
use Rattle.types_rows.specs.Read.{tab}
use Rattle.valid_context.specs.Context.{regs_of}
use Rattle.types_rows.specs.declared.Held.{Held}
use Rattle.faults.specs.declared.Fault.{Fault}
use Rattle.valid_context.specs.Told.{told_of, told}
use Rattle.valid_context.specs.premises.Answers.{Holds}
use Rattle.valid_typing.specs.Typing.{held_in}
use Rattle.valid_judge.specs.heap.Forms.{held}

-- the type of a row that a package hides, in the environment that opening it makes; E are the environments before that
abbrev pub opened_type : List ℕ → List ℕ → ℕ → List ℕ → Held → Ty value
opened_type rows parts n E h = (held_in rows parts n (E ++ h.env ∷ [])).type (suc (2 * length E)) h.row

-- the code's answer r to instruction x, with registers γ before it: its least fault, or registers γ' after it, whatever sp is; E are the
-- environments of the packages opened so far
abbrev pub InFile : List ℕ → List ℕ → ℕ → List ℕ → ℕ → List ℕ → List Kind → List ℕ → List ℕ → Result (Unit {0}) Fault → Instr → Type 0
InFile rows parts n blocks nb E Δ γ γ' r x =
    (P : Program) (s : Ty stack) → Holds (tab rows parts) n blocks nb P
    → told_of (judge P Δ (held s (regs_of (held_in rows parts n E) γ)) x) ≡ told (λ u. held s (regs_of (held_in rows parts n E) γ')) r
