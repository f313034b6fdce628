use Rattle.print_write.proofs.Laws.{line_written, line_short}
use Rattle.report_day.proofs.line.write_report.Goals as goal

pub returns : goal.returns
returns c =
    (line_written c.report_line-n.new.out c.report_line-n.result _ _ c.report_line-n.ensures.1 c.write.ensures, line_short c.report_line-n.new.out c.report_line-n.result 160 _ c.report_line-n.ensures.0 c.report_line-n.ensures.1)
