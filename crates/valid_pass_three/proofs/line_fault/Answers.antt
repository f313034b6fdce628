use native.Mathlib.Omega.{arith}
use Prim.Native.Nat.{◌+◌}
use Rattle.image.specs.Sections.{part}
use Rattle.types_rows.proofs.Bridge.{counted_to}
use Rattle.valid_typing.specs.Image.{row_table}
use Rattle.valid_pass_three.proofs.line_fault.Goals as goal

pub block_fault-requires : goal.block_fault-requires
unfolding part
block_fault-requires c =
    let t = c.requires.0.tables in
    (t.ready.few, c.requires.1, (λ y k. counted_to (row_table c.args.p c.args.image.now) (c.args.n + 2) t.ready.counted y (omega arith)), t.scoped)

pub returns : goal.returns
unfolding part
returns c = c.block_fault.ensures
