use native.Mathlib.Omega.{arith}
use Rattle.print_write.proofs.Laws.{all_written, some_written}
use Rattle.stal_check.proofs.check_line.Goals as goal

pub unwrap-requires : goal.unwrap-requires
unwrap-requires c =
    let a = c.requires in
    let b = c.write_verdict.ensures.1 in
    some_written _ _ _ _ c.write_verdict.ensures.0 (omega arith)

pub returns : goal.returns
returns c =
    let a = c.requires in
    let b = c.write_verdict.ensures.1 in
    rw (← c.check.ensures) (all_written _ _ _ _ c.write_verdict.ensures.0 (omega arith) _ c.unwrap.ensures)
