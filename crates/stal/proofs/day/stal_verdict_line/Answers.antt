use mathlib.Core.Path.{ap}
use Rattle.print.specs.Lines.{verdict_line}
use Rattle.stal.proofs.Laws.{line_told}
use Rattle.stal.proofs.day.stal_verdict_line.Goals as goal

pub returns : goal.returns
returns c =
    line_told c.args.out.now c.write_verdict-w.result c.put_written.ensures c.write_verdict-w.ensures.0 (ap verdict_line c.verdict_by.ensures)
