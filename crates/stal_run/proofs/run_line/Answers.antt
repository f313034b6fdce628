use mathlib.Core.Path.{ap, ◌∙◌}
use native.Mathlib.Omega.{arith}
use Rattle.exec.specs.Run.{Outcome}
use Rattle.print.specs.Lines.{answer_line}
use Rattle.print_write.proofs.Laws.{all_written, some_written}
use Rattle.stal_run.specs.Fresh.{fresh}
use Rattle.stal_run.proofs.run_line.Goals as goal

pub unwrap-requires : goal.unwrap-requires
unwrap-requires c =
    let a = c.requires in
    let b = c.write_answer.ensures.1 in
    some_written _ _ _ _ c.write_answer.ensures.0 (omega arith)

pub returns : goal.returns
unfolding fresh
returns c =
    let a = c.requires in
    let b = c.write_answer.ensures.1 in
    let p = all_written _ _ _ _ c.write_answer.ensures.0 (omega arith) _ c.unwrap.ensures in
    (p.0, p.1 ∙ ap (λ (o : Outcome). answer_line o.answer) c.start-outcome.ensures)
