use mathlib.Core.Path.{ap}
use Rattle.print.specs.Lines.{answer_line}
use Rattle.stal.proofs.Laws.{line_told}
use Rattle.stal.proofs.day.stal_answer_line.Goals as goal

pub returns : goal.returns
returns c =
    line_told c.args.out.now c.write_answer-w.result c.put_written.ensures c.write_answer-w.ensures.0 (ap answer_line c.answer_of.ensures)
