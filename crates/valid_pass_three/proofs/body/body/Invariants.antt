use Prim.Native.Nat.{◌≤◌}
use mathlib.Core.Path.{◌≡◌}
use mathlib.Core.List.{[]}
use lib.ListN.{take}
use Rattle.valid.specs.Program.{Program}
use Rattle.valid_context.specs.Context.{context_of}
use Rattle.valid_typing.specs.Image.{read_at, HoldsAt, letters_in}
use Rattle.valid_judge.specs.Image.{counting}
use Rattle.valid_pass_three.proofs.body.Arrays.{AsLong}
use Rattle.valid_pass_three.proofs.body.Environments.{Under}
use mathlib.Core.Option.{Option}
use Rattle.syntax.specs.Syntax.{Kind}
use Rattle.syntax.specs.Fault.{Refusal}
use Rattle.image.specs.declared.Places.{Places}
use Rattle.image.specs.Sections.{instr_section}
use Rattle.valid.specs.Rules.{Context}
use Rattle.valid_typing.specs.Image.{operands_in}
use Rattle.valid_pass_three.specs.declared.body.BodyLines.{BodyLines}
use Rattle.valid_pass_three.proofs.body.Lines.{lines_left}
use Prim.Native.Nat.{ℕ}
use mathlib.Core.List.{List}
use Rattle.valid_pass_three.proofs.body.body.Given as goal

abbrev pub left : Places → List ℕ → List ℕ → BodyLines → Program → List Kind → ℕ → Context → Option Refusal
left p l literals x P Δ i Γ = lines_left P (instr_section p l) (operands_in p l literals) x.end x.base Δ i Γ

abbrev pub invariant-loop-i : goal.invariant-loop-i
invariant-loop-i l =
    AsLong l.regs l.sp l.work l.pending l.initial.regs l.initial.sp l.initial.work l.initial.pending × Under l.envs l.h l.regs l.sp l.depth × (l.x.first ≤ l.i)
    × ((P : Program) → HoldsAt l.p l.image l.c P
    → left l.p l.image l.literals l.x P (letters_in l.p l.image (counting l.w (take l.h l.envs))) l.i (context_of (read_at l.p l.image l.c.rows (take l.h l.envs)) l.regs l.sp l.depth)
    ≡ left l.p l.image l.literals l.x P (letters_in l.p l.image l.w) l.x.first (context_of (read_at l.p l.image l.c.rows []) l.initial.regs l.initial.sp l.x.depth))
