use mathlib.Core.Path.{◌≡◌}
use Prim.Native.Nat.{◌+◌}
use lib.ListN.{length}
use Rattle.types_rows.specs.Read.{tab}
use Rattle.valid_share.proofs.Laws.{Naming}
use Rattle.valid_share.proofs.find_first.Given as goal

abbrev pub invariant-loop-r : goal.invariant-loop-r
invariant-loop-r l =
    Naming (tab l.rows l.parts) (l.n + 2) l.n l.initial.first l.first l.r × (length l.work ≡ length l.initial.work) × (length l.chains ≡ length l.initial.chains)
