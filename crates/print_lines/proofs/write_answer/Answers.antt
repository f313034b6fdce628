use Rattle.print_write.proofs.Laws.{line_written, line_short}
use Rattle.print_lines.proofs.write_answer.Goals as goal

pub returns : goal.returns
returns c =
    (line_written c.answer_line-n.new.out c.answer_line-n.result _ _ c.answer_line-n.ensures.1 c.write.ensures, line_short c.answer_line-n.new.out c.answer_line-n.result 64 _ c.answer_line-n.ensures.0 c.answer_line-n.ensures.1)
