use Prim.Native.Nat.{◌+◌, ◌-◌, ◌≤◌}
use mathlib.Core.Path.{◌≡◌}
use lib.ListN.{length}
use Rattle.tables.specs.Tables.{operands_at}
use Rattle.valid.specs.Program.{Program}
use Rattle.valid_context.specs.Context.{regs_of}
use Rattle.valid_context.specs.Told.{told_of, told}
use Rattle.valid_typing.specs.Image.{read_at, operands_in, HoldsAt, letters_in}
use Rattle.valid_typing.specs.components.Components.{types_from, components}
use Rattle.valid_typing.proofs.components.operand_list.Given as goal

abbrev pub invariant-loop-i : goal.invariant-loop-i
invariant-loop-i l =
    (l.i ≤ l.initial.i) × (length l.pending ≡ length l.initial.pending) × (length l.found ≡ length l.initial.found)
    × ((P : Program) → HoldsAt l.t l.image l.k P → told_of (components P (letters_in l.t l.image l.u) (regs_of (read_at l.t l.image l.k.rows l.envs) l.regs) (operands_at (operands_in l.t l.image l.literals) (l.v + l.i) (l.initial.i - l.i))) ≡ told (λ u. types_from (read_at l.t l.image l.k.rows l.envs) l.found l.i (l.initial.i - l.i)) l.all)
