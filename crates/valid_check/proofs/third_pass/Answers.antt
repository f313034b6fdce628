use native.Mathlib.Omega.{arith}
use Rattle.load.proofs.Laws.{zeros_long}
use Rattle.valid_check.proofs.third_pass.Goals as goal

pub pass_three-requires : goal.pass_three-requires
pass_three-requires c =
    let q = c.requires in
    (q.0, q.1, record { registers = zeros_long 16 16 (omega arith); items = zeros_long 128 128 (omega arith); work = q.2; pending = q.3 })
