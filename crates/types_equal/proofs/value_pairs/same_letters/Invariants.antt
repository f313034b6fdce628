use Rattle.types_equal.proofs.value_pairs.Letters.{LettersLeft}
use Rattle.types_equal.proofs.value_pairs.same_letters.Given as goal

abbrev pub invariant-loop-i : goal.invariant-loop-i
invariant-loop-i l = LettersLeft l.parts l.p l.q l.a l.i
