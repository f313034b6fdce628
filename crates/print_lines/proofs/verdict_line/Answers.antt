use Rattle.text.specs.Bytes.{bytes}
use Rattle.print.specs.Lines.{acceptance, refusal, verdict_fields, verdict_line}
use Rattle.valid_verdict.specs.Answers.{verdict_is}
use Rattle.print_lines.proofs.Laws.{three_fields}
use Rattle.print_lines.proofs.verdict_line.Goals as goal

pub returns-in-Accepted : goal.returns-in-Accepted
unfolding bytes verdict_is verdict_fields verdict_line acceptance
returns-in-Accepted c = rw c.in-Accepted.is (three_fields _ _ (bytes "accept") _ _ c.two_numbers.ensures)

pub returns-in-Refused : goal.returns-in-Refused
unfolding bytes verdict_is verdict_fields verdict_line refusal
returns-in-Refused c = rw c.in-Refused.is (three_fields _ _ (bytes "refuse") _ _ c.two_numbers-in-Refused.ensures)

pub returns-in-Unfit : goal.returns-in-Unfit
unfolding bytes verdict_is verdict_fields verdict_line refusal
returns-in-Unfit c = rw c.in-Unfit.is (three_fields _ _ (bytes "refuse") _ _ c.two_numbers-in-Unfit.ensures)
