use Rattle.valid_typing.proofs.Args.{RestFit}
use Rattle.valid_typing.proofs.letters_fit.Given as goal

abbrev pub invariant-loop-j : goal.invariant-loop-j
invariant-loop-j l = RestFit l.rows l.parts l.n l.args l.p l.k l.j
