-- What is promised of the instructions that read or change sp.
use Rattle.std.specs.Prelude.{ℕ, ◌≡◌, List, Result}
use Rattle.faults.specs.declared.Fault.{Fault}
use Rattle.syntax.specs.Syntax.{Kind, Instr}
use Rattle.types.specs.Rows.{types_of}
use Rattle.tables.specs.Tables.{rows_in}
use Rattle.valid.specs.Program.{Program}
use Rattle.valid.specs.PassThree.{judge}
use Rattle.types_rows.specs.Read.{tab}
use Rattle.valid_context.specs.Context.{context_of, HeldIn}
use Rattle.valid_context.specs.Told.{told_of, told}
use Rattle.valid_typing.specs.Typing.{held_in}

-- the code's answer r to instruction x, with registers γ and the d lowest items of σ before it: its least fault, or y, and then registers
-- γ' and the m y lowest items of σ' after it; E are the environments of the packages opened so far
abbrev pub InStack : {A : Type 0} → List ℕ → List ℕ → ℕ → List ℕ → List Kind → List ℕ → List ℕ → ℕ → List ℕ → List ℕ → (A → ℕ) → Result A Fault → Instr → Type 0
InStack rows parts n E Δ γ σ d γ' σ' m r x =
    (P : Program) → P.types ≡ types_of (rows_in (tab rows parts) n)
    → told_of (judge P Δ (context_of (held_in rows parts n E) γ σ d) x) ≡ told (λ y. context_of (held_in rows parts n E) γ' σ' (m y)) r

-- the environments of the registers and of the items of sp still exist
abbrev pub Kept : List ℕ → List ℕ → List ℕ → ℕ → List ℕ → List ℕ → ℕ → Type 0
Kept E γ σ d γ' σ' d' = HeldIn E γ σ d → HeldIn E γ' σ' d'
