use Rattle.std.proofs.Common.{zero-le}
use Rattle.text_decode.proofs.line.LineLaws.{tuple_bad, tuple_is}
use Rattle.text_decode.proofs.line.read_tuple.Goals as goal

pub returns-in_err-n : goal.returns-in_err-n
returns-in_err-n c = rw c.from_residual.ensures (tuple_bad _ _ _ _ _ c.in_err-n.ensures.0, tt)

pub returns : goal.returns
returns c = (tuple_is _ _ _ _ _ _ c.in_ok-n.ensures.0, (c.in_ok-n.ensures.1.0, (zero-le, zero-le)))
