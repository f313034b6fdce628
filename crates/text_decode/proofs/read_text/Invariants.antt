use mathlib.Core.Path.{◌≡◌}
use Prim.Native.Nat.{◌-◌, ◌≤◌}
use lib.ListN.{length}
use Rattle.text_decode.specs.store.Store.{store_in}
use Rattle.text_decode.proofs.LoopLaws.{Going}
use Rattle.text_decode.proofs.read_text.Given as goal

abbrev pub invariant-loop-at : goal.invariant-loop-at
invariant-loop-at l =
    Going l.text l.at l.line l.place l.u (store_in l.p l.image l.numbers) × (length l.image ≡ length l.initial.image) × (length l.numbers ≡ length l.initial.numbers) × (l.at ≤ l.end)

abbrev pub decreases-loop-at : goal.decreases-loop-at
decreases-loop-at l = length l.text - l.at
