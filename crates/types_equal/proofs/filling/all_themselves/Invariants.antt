use Rattle.types_equal.specs.filling.Filling.{Themselves}
use Rattle.types_equal.proofs.filling.all_themselves.Given as goal

abbrev pub invariant-loop-j : goal.invariant-loop-j
invariant-loop-j l = Themselves l.rows l.parts l.p l.args l.j
