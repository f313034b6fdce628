use Rattle.std.proofs.Common.{arith}
use Rattle.print_write.proofs.Laws.{puts_behind}
use Rattle.report_day.proofs.line.put_last.Goals as goal

pub returns : goal.returns
returns c =
    let i = c.put-a.ensures.end in
    let j = c.put_decimal-b.ensures.1 in
    let k = c.put.ensures.end in
    (puts_behind c.put-a.ensures (puts_behind c.put_decimal-b.ensures.0 c.put.ensures), omega arith)
