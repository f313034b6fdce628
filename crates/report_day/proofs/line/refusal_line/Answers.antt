use Rattle.std.proofs.Common.{arith}
use Rattle.report_day.proofs.line.Laws.{refused_line}
use Rattle.report_day.proofs.line.refusal_line.Goals as goal

pub returns : goal.returns
returns c =
    let i = c.put-a.ensures.end in
    let j = c.put_decimal-b.ensures.1 in
    let k = c.put.ensures.end in
    (omega arith, refused_line _ c.put-a.ensures c.put_decimal-b.ensures.0 c.put.ensures)
