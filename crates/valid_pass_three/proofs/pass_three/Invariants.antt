use mathlib.Core.Path.{◌≡◌}
use Rattle.syntax.specs.Fault.{lowest_line}
use Rattle.image.specs.Sections.{block_section, instr_section}
use Rattle.valid.specs.Program.{Program, blocks_of}
use Rattle.valid.specs.PassThree.{pass_three}
use Rattle.valid_typing.specs.Image.{row_table, operands_in, HoldsAt}
use Rattle.valid_pass_three.specs.Blocks.{blocks_in}
use Rattle.valid_pass_three.proofs.body.Arrays.{AsLong}
use Rattle.valid_pass_three.proofs.Blocks.{blocks_left}
use Rattle.types.specs.Types.{Arg}
use Prim.Native.Nat.{ℕ}
use mathlib.Core.List.{List}
use Rattle.image.specs.declared.Places.{Places}
use Rattle.tables.specs.Tables.{rows_in}
use Rattle.types.specs.Rows.{types_of}
use Rattle.valid_pass_three.proofs.pass_three.Given as goal

abbrev pub types : Places → List ℕ → ℕ → List Arg
types p l n = types_of (rows_in (row_table p l) n)

abbrev pub invariant-loop-b : goal.invariant-loop-b
invariant-loop-b l =
    AsLong l.regs l.sp l.work l.pending l.initial.regs l.initial.sp l.initial.work l.initial.pending
    × ((P : Program) → HoldsAt l.p l.image l.c P → P.blocks ≡ blocks_of (types l.p l.image l.c.rows) (blocks_in l.p l.image l.literals l.c) → blocks_left P
    (types l.p l.image l.c.rows) (block_section l.p l.image) (instr_section l.p l.image) (operands_in l.p l.image l.literals) l.c.instrs l.c.rows
    l.c.blocks l.b ≡ lowest_line 0 (pass_three P))
