use Rattle.text.specs.Bytes.{bytes}
use Rattle.print.specs.Lines.{refusal, stop_fields, answer_fields, answer_line}
use Rattle.print_lines.proofs.Laws.{two_fields, three_fields}
use Rattle.print_lines.proofs.answer_line.Goals as goal

pub returns-in-Refused : goal.returns-in-Refused
unfolding bytes answer_line answer_fields refusal
returns-in-Refused c = rw c.in-Refused.is (three_fields _ _ (bytes "refuse") _ _ c.two_numbers.ensures)

pub returns-in-Halted : goal.returns-in-Halted
returns-in-Halted c = rw c.in-Halted.is c.halt_line.ensures

pub returns-in-Paused : goal.returns-in-Paused
unfolding bytes answer_line answer_fields stop_fields
returns-in-Paused c = rw c.in-Paused.is (two_fields _ _ (bytes "paused") _ c.one_number.ensures)

pub returns-in-StackFull : goal.returns-in-StackFull
unfolding bytes answer_line answer_fields stop_fields
returns-in-StackFull c = rw c.in-StackFull.is (two_fields _ _ (bytes "stack") _ c.one_number-in-StackFull.ensures)

pub returns-in-HeapFull : goal.returns-in-HeapFull
unfolding bytes answer_line answer_fields stop_fields
returns-in-HeapFull c = rw c.in-HeapFull.is (two_fields _ _ (bytes "heap") _ c.one_number-in-HeapFull.ensures)

pub returns-in-Stuck : goal.returns-in-Stuck
unfolding bytes answer_line answer_fields stop_fields
returns-in-Stuck c = rw c.in-Stuck.is (two_fields _ _ (bytes "stuck") _ c.one_number-in-Stuck.ensures)
