use Rattle.print_write.proofs.Laws.{line_written, line_short}
use Rattle.print_lines.proofs.write_verdict.Goals as goal

pub returns : goal.returns
returns c =
    (line_written c.verdict_line-n.new.out c.verdict_line-n.result _ _ c.verdict_line-n.ensures.1 c.write.ensures, line_short c.verdict_line-n.new.out c.verdict_line-n.result 64 _ c.verdict_line-n.ensures.0 c.verdict_line-n.ensures.1)
