use Rattle.std.proofs.Common.{arith, w64}
use Rattle.std.proofs.lemmas.Int.{to_z-of_z}
use mir.Val.{SFits}
use Rattle.print_write.proofs.Laws.{puts_behind}
use Rattle.report_day.proofs.line.put_next.Goals as goal

pub returns : goal.returns
returns c =
    let i = c.put-a.ensures.end in
    let j = c.put_signed.ensures.1 in
    let f : SFits w64 c.args.n = c.ranges.n in
    (puts_behind c.put-a.ensures (simp to_z-of_z at c.put_signed.ensures.0), omega arith)
