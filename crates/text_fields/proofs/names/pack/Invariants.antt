use Rattle.std.proofs.Common.{◌≡◌, drop}
use Rattle.text_fields.specs.names.Pieces.{packed}
use Rattle.text_fields.proofs.names.pack.Given as goal

abbrev pub invariant-loop-i : goal.invariant-loop-i
invariant-loop-i l = l.k ≡ packed (drop l.i l.f)
