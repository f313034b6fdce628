use Rattle.std.proofs.Common.{arith}
use Rattle.print_write.proofs.Laws.{puts_behind}
use Rattle.report_day.proofs.line.put_counts.Goals as goal

pub returns : goal.returns
returns c =
    let i = c.put_decimal-a.ensures.1 in
    let j = c.put-b.ensures.end in
    let k = c.put_decimal.ensures.1 in
    (puts_behind c.put_decimal-a.ensures.0 (puts_behind c.put-b.ensures c.put_decimal.ensures.0), omega arith)
