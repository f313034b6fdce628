use Rattle.std.proofs.Common.{arith}
use Rattle.stal_lines.specs.Day.{seven, bits_of, short, barred, none_halted, tallied}
use Rattle.stal_lines.proofs.put_figures.Goals as goal

pub returns-then-figures-lt7 : goal.returns-then-figures-lt7
returns-then-figures-lt7 c = short c.if-figures-lt7.true

pub returns-in-Err : goal.returns-in-Err
returns-in-Err c = rw c.in-Err.is (barred (omega arith))

pub returns-in-Ok-NoInteger : goal.returns-in-Ok-NoInteger
unfolding seven
returns-in-Ok-NoInteger c =
    let q = rw c.in-Ok-NoInteger.is at c.in-Ok-NoInteger.field-0-is in
    rw (c.in-Ok-NoInteger.is, q, c.copy_from_slice.ensures.after) (none_halted (omega arith))

pub returns-in-Ok-Tallied : goal.returns-in-Ok-Tallied
returns-in-Ok-Tallied c =
    let q = rw c.in-Ok-Tallied.is at c.in-Ok-Tallied.field-0-is in
    rw (c.in-Ok-Tallied.is, q, c.copy_from_slice-in-Ok-Tallied.ensures.after, c.numbers_of.ensures.0, ← c.numbers_of.ensures.1) (tallied (bits_of c.in-Ok-Tallied.f) (omega arith))
