use Rattle.valid_typing.specs.Image.{row_table, read_at, HoldsAt}
use mathlib.Core.Path.{◌≡◌}
use mathlib.Core.Bool.{false}
use Prim.Native.Nat.{ℕ, ◌+◌, ◌-◌, ◌≤◌}
use mathlib.Core.List.{List}
use Rattle.syntax.specs.Syntax.{Kind}
use Rattle.tables.specs.Tables.{operands_at}
use Rattle.valid.specs.Program.{Program}
use Rattle.types_rows.specs.Read.{mean_v, parts_of}
use Rattle.valid_context.specs.Context.{regs_of}
use Rattle.valid_context.specs.Told.{gives, told_of}
use Rattle.valid_typing.specs.operands.Operands.{operand_table}
use Rattle.valid_typing.specs.components.Components.{components}
use Rattle.image.specs.Sections.{operand_section, slot_section}
use Rattle.valid_typing.proofs.plain_components.plain_parts.Given as goal

abbrev pub invariant-loop-i : goal.invariant-loop-i
invariant-loop-i l =
    (l.i ≤ l.initial.i)
    × ((P : Program) (Δ : List Kind) (args : List ℕ) → HoldsAt l.q l.image l.k P → told_of (components P Δ (regs_of (read_at l.q l.image l.k.rows l.envs)
    l.regs) (operands_at (operand_table (operand_section l.q l.image) l.literals args) (l.v + l.i) (l.initial.i - l.i))) ≡ gives
    (parts_of (mean_v (row_table l.q l.image)) (slot_section l.q l.image) false l.h (l.at + l.i) (l.initial.i - l.i)))

abbrev pub decreases-loop-i : goal.decreases-loop-i
decreases-loop-i l = l.i
