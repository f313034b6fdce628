use mathlib.Core.Path.{ap}
use Rattle.report.specs.Day.{report_line}
use Rattle.stal.proofs.Laws.{line_told}
use Rattle.stal.proofs.day.stal_report_line.Goals as goal

pub returns : goal.returns
returns c =
    line_told c.args.out.now c.write_report-w.result c.put_written.ensures c.write_report-w.ensures.0 (ap report_line c.report.ensures)
