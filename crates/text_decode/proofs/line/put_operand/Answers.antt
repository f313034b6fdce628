use Rattle.std.proofs.Common.{ap, arith, add-one, length-set, set}
use native.Mathlib.Numerals.{add-two, add-three}
use Rattle.text_decode.proofs.line.put_operand.Goals as goal

pub returns : goal.returns
returns c = (simp (c.kind_number.ensures, add-one, add-two, add-three), ap (set c.args.numbers.now c.args.v) c.base_number.ensures)

pub bounds-operands-i-2 : goal.bounds-operands-i-2
bounds-operands-i-2 c = simp length-set (omega arith)

pub bounds-operands-i-3 : goal.bounds-operands-i-3
bounds-operands-i-3 c = simp length-set (omega arith)

pub bounds-operands-i-4 : goal.bounds-operands-i-4
bounds-operands-i-4 c = simp length-set (omega arith)
