use Rattle.text_lines.proofs.Parts.{next_ended, next_last}
use Rattle.text_lines.proofs.next_line.Goals as goal

pub returns-else-e-text : goal.returns-else-e-text
returns-else-e-text c = next_last _ _ _ c.line_end-e.ensures (search)

pub returns-then-e-text : goal.returns-then-e-text
returns-then-e-text c = next_ended _ _ _ (search) (search)
