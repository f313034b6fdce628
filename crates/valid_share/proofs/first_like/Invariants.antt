use mathlib.Core.Path.{◌≡◌}
use lib.ListN.{length}
use Prim.Native.Nat.{suc, ◌<◌}
use Rattle.std.specs.Prelude.{IfSome, Option, Some, None}
use Rattle.std.proofs.Common.{ℕ}
use Rattle.valid_share.proofs.first_like.Given as goal

abbrev pub rows_left : Option ℕ → ℕ
rows_left None = 0
rows_left (Some c) = suc c

abbrev pub invariant-loop-next : goal.invariant-loop-next
invariant-loop-next l = IfSome l.next (λ c. c < l.r) × (length l.work ≡ length l.initial.work)

abbrev pub decreases-loop-next : goal.decreases-loop-next
decreases-loop-next l = rows_left l.next
