use Prim.Native.Nat.{◌≤◌}
use Rattle.valid_share.proofs.rename.Laws.{Turned}
use Rattle.valid_share.proofs.rename.fill_parts.Given as goal

abbrev pub invariant-loop-r : goal.invariant-loop-r
invariant-loop-r l =
    (l.r ≤ l.n) × Turned l.first l.initial.image l.rows l.blocks l.parts l.operands l.slots l.n l.image l.r
