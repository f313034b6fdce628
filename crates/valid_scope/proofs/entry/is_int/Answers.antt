use Rattle.valid_scope.proofs.entry.Laws.{int_row, other_row}
use Rattle.valid_scope.proofs.entry.is_int.Goals as goal

pub returns-in-Int : goal.returns-in-Int
returns-in-Int c = λ parts. int_row _ parts _ c.read_value.ensures.0 c.in-Int.is

pub returns-in_default : goal.returns-in_default
returns-in_default c = λ parts. other_row _ parts _ c.read_value.ensures.0 c.in_default.not-Int
