use Rattle.valid_scope.specs.Letters.{letters_of}
use Rattle.valid_typing.proofs.Args.{RestFormed}
use Rattle.valid_typing.proofs.formed_args.Given as goal

abbrev pub invariant-loop-i : goal.invariant-loop-i
invariant-loop-i l = RestFormed l.rows l.parts l.n (letters_of l.parts l.u) l.args l.a l.c l.i
