use Rattle.valid_scope.proofs.entry.Laws.{declares_none, declares_tuple, other_tuple, is_tuple}
use Rattle.valid_scope.proofs.entry.tuple_at.Goals as goal

pub returns-in-Tuple : goal.returns-in-Tuple
returns-in-Tuple c = λ parts. declares_tuple (is_tuple _ parts _ c.read_value.ensures.0 c.in-Tuple.is c.read_value.ensures.1 c.requires)

pub returns-in_default : goal.returns-in_default
returns-in_default c = λ parts. declares_none (other_tuple _ parts _ c.read_value.ensures.0 c.in_default.not-Tuple)
