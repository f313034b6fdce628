use Rattle.std.proofs.Common.{arith}
use Rattle.report_day.proofs.line.Laws.{no_integer_line}
use Rattle.report_day.proofs.line.none_line.Goals as goal

pub returns : goal.returns
returns c =
    let i = c.put_counts-a.ensures.1 in
    let j = c.put.ensures.end in
    (omega arith, no_integer_line _ c.put_counts-a.ensures.0 c.put.ensures)
