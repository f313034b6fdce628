use Rattle.std.proofs.Common.{◌-◌, length}
use Rattle.text_fields.proofs.numbers.Scans.{Scanning}
use Rattle.text_fields.proofs.numbers.digits_at.Given as goal

abbrev pub invariant-loop-m : goal.invariant-loop-m
invariant-loop-m l = Scanning l.s l.at l.high l.n l.i

abbrev pub decreases-loop-m : goal.decreases-loop-m
decreases-loop-m l = length l.s - l.i
