use Rattle.std.proofs.Common.{◌-◌, length}
use Rattle.report_day.proofs.Days.{Walked}
use Rattle.report_day.proofs.report.Given as goal

abbrev pub invariant-loop-at : goal.invariant-loop-at
invariant-loop-at l = Walked l.text l.at l.lines l.tally

abbrev pub decreases-loop-at : goal.decreases-loop-at
decreases-loop-at l = length l.text - l.at
