use Rattle.std.proofs.Common.{sym, arith}
use Rattle.image.proofs.Laws.{short, small, small_shared, large, large_shared}
use Rattle.image.proofs.lay_out.Goals as goal

pub returns-in-0-to-4422 : goal.returns-in-0-to-4422
returns-in-0-to-4422 c = sym (short c.args.n (omega arith))

pub returns-in-4423-to-5161 : goal.returns-in-4423-to-5161
returns-in-4423-to-5161 c = sym (small c.args.n (omega arith) (omega arith))

pub returns-in-5162-to-150899 : goal.returns-in-5162-to-150899
returns-in-5162-to-150899 c = sym (small_shared c.args.n (omega arith) (omega arith))

pub returns-in-150900-to-161693 : goal.returns-in-150900-to-161693
returns-in-150900-to-161693 c = sym (large c.args.n (omega arith) (omega arith))

pub returns-in_default : goal.returns-in_default
returns-in_default c = sym (large_shared c.args.n (omega arith))
