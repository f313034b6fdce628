use native.Mathlib.Omega.{arith}
use Rattle.types_rows.proofs.Environments.{listed_low, listed_high}
use Rattle.types_rows.proofs.variables.listed.Goals as goal

pub returns-then-j-lt64 : goal.returns-then-j-lt64
returns-then-j-lt64 c =
    let u = c.at.ensures.1 in
    (listed_low c.args.names.now c.args.f c.args.j (search) c.at.ensures.0, omega arith)

pub returns-else-j-lt64 : goal.returns-else-j-lt64
returns-else-j-lt64 c =
    let u = c.at-else-j-lt64.ensures.1 in
    (listed_high c.args.names.now c.args.f c.args.j (search) c.at-else-j-lt64.ensures.0, omega arith)
