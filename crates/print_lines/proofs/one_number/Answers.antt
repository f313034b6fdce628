use Rattle.print_lines.proofs.Laws.{one_put}
use Rattle.print_lines.proofs.one_number.Goals as goal

pub returns : goal.returns
returns c = one_put c.put-i.ensures c.put_decimal-j.ensures c.put.ensures c.requires.0
