use Rattle.valid_scope.proofs.Sections.{Finding}
use Rattle.valid_scope.proofs.find_all.Given as goal

abbrev pub invariant-loop-r : goal.invariant-loop-r
invariant-loop-r l = Finding l.p l.n l.initial.image l.image l.bound l.r
