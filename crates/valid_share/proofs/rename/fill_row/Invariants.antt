use Prim.Native.Nat.{◌+◌, ◌≤◌}
use Rattle.image.specs.Sections.{part, Outside}
use Rattle.valid_share.specs.rename.Renamed.{new_part, FilledRow}
use Rattle.valid_share.proofs.rename.fill_row.Given as goal

abbrev pub invariant-loop-j : goal.invariant-loop-j
invariant-loop-j l =
    (l.j ≤ 17) × FilledRow l.base l.j (new_part l.first (part l.parts l.operands l.initial.image) l.k l.a l.b) l.initial.image l.image × Outside l.base (l.base + 17) l.initial.image l.image
