use Prim.Native.Nat.{◌+◌, ◌-◌}
use lib.ListN.{length}
use Rattle.image.specs.Sections.{part, Outside}
use Rattle.text_lines.specs.Parts.{line_in, StopAt}
use Rattle.text_decode.specs.line.Answers.{operand_table}
use Rattle.text_decode.proofs.line.OperandLaws.{OperandsGo}
use Rattle.text_decode.proofs.line.read_operands.Given as goal

abbrev pub invariant-loop-i : goal.invariant-loop-i
invariant-loop-i l =
    OperandsGo (line_in l.rest) (l.at + 1) l.most l.v l.a (operand_table (part l.from l.mid l.initial.image) l.initial.numbers (part l.mid l.to l.initial.image)) (operand_table (part l.from l.mid l.image) l.numbers (part l.mid l.to l.image)) (l.i + 1) l.n l.m × StopAt l.rest l.i × Outside l.from l.to l.initial.image l.image

abbrev pub decreases-loop-i : goal.decreases-loop-i
decreases-loop-i l = length l.rest - l.i
