use mathlib.Core.Path.{◌≡◌}
use Prim.Native.Nat.{◌-◌, ◌≤◌}
use lib.ListN.{length, take}
use Rattle.text.specs.Samples.{samples_of}
use Rattle.exec_state.proofs.samples.Laws.{joined}
use Rattle.exec_state.proofs.samples.read_samples.Given as goal

abbrev pub invariant-loop-at : goal.invariant-loop-at
invariant-loop-at l =
    (l.at ≤ length l.text) × (l.n ≤ l.want) × (length l.out ≡ length l.initial.out) × (joined (take l.n l.out) l.text l.at ≡ samples_of l.text)

abbrev pub decreases-loop-at : goal.decreases-loop-at
decreases-loop-at l = length l.text - l.at
