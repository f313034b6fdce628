use Rattle.std.proofs.Common.{rules}
use Rattle.text_decode.proofs.line.StopLaws.{most_row, most_index, most_amount}
use Rattle.text_decode.proofs.line.most_of.Goals as goal

pub returns-in-2 : goal.returns-in-2
returns-in-2 c = most_row _ c.in-2.is

pub returns-in-3 : goal.returns-in-3
returns-in-3 c = most_index _ (search rules) c.in-3.is

pub returns-in_default : goal.returns-in_default
returns-in_default c = most_amount _ (search rules) (search rules)
