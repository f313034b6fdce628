use Prim.Native.Nat.{◌-◌}
use lib.ListN.{length}
use Rattle.read_lines.proofs.Walk.{Walked}
use Rattle.read_lines.proofs.agreeing.Given as goal

abbrev pub invariant-loop-at : goal.invariant-loop-at
invariant-loop-at l = Walked l.text l.at l.n l.agree

abbrev pub decreases-loop-at : goal.decreases-loop-at
decreases-loop-at l = length l.text - l.at
