use Prim.Native.Nat.{◌≤◌}
use Rattle.image.specs.Sections.{part, Outside}
use Rattle.valid_share.specs.rename.Renamed.{FilledRows}
use Rattle.valid_share.proofs.rename.fill_rows.Given as goal

abbrev pub invariant-loop-r : goal.invariant-loop-r
invariant-loop-r l =
    (l.r ≤ l.m) × FilledRows l.first (part l.rows l.blocks l.initial.image) l.r (part l.shared l.slots l.image) × Outside l.shared l.slots l.initial.image l.image
