use mathlib.Core.Path.{◌≡◌}
use lib.ListN.{length}
use Rattle.valid_pass_three.proofs.body.Registers.{Right}
use Rattle.valid_pass_three.proofs.body.enter.Given as goal

abbrev pub invariant-loop-i : goal.invariant-loop-i
invariant-loop-i l = (length l.regs ≡ length l.initial.regs) × Right l.rows l.parts l.n l.h l.p l.regs l.i
