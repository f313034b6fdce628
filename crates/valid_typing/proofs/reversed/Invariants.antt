use mathlib.Core.Path.{◌≡◌}
use lib.ListN.{length}
use Rattle.valid_typing.proofs.Args.{Back}
use Rattle.valid_typing.proofs.reversed.Given as goal

abbrev pub invariant-loop-i : goal.invariant-loop-i
invariant-loop-i l = (length l.back ≡ length l.initial.back) × Back l.n l.args l.a l.c l.back l.i
