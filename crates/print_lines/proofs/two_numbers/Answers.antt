use Rattle.print_lines.proofs.Laws.{two_put}
use Rattle.print_lines.proofs.two_numbers.Goals as goal

pub returns : goal.returns
returns c =
    two_put c.put-i.ensures c.put_decimal-j.ensures c.put-k.ensures c.put_decimal-l.ensures c.put.ensures c.requires.0
