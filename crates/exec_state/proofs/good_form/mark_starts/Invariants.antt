use Rattle.exec_words.specs.memory.Lent.{lent}
use Rattle.exec_state.proofs.good_form.Laws.{Marking}
use Rattle.exec_state.proofs.good_form.mark_starts.Given as goal

abbrev pub invariant-loop-i : goal.invariant-loop-i
invariant-loop-i l = Marking (lent l.hk l.hn) l.used l.starts l.k l.i
