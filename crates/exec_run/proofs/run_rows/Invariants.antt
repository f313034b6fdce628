use Rattle.exec_words.specs.memory.Lent.{lent}
use Rattle.exec_machine.specs.Step.{tables}
use Rattle.exec_run.proofs.Laws.{Running, start, AsLong}
use Rattle.exec_run.proofs.run_rows.Given as goal

abbrev pub invariant-loop-to : goal.invariant-loop-to
invariant-loop-to l =
    AsLong l.rk l.rn l.initial.rk l.initial.rn × AsLong l.sk l.sn l.initial.sk l.initial.sn × AsLong l.hk l.hn l.initial.hk l.initial.hn × Running (tables l.instrs l.operands l.bases l.blocks l.count l.labels) l.budget
    (start l.initial.rk l.initial.rn l.initial.sk l.initial.sn l.initial.hk l.initial.hn l.initial.at l.initial.depth l.initial.used) (lent l.rk l.rn) (lent l.sk l.sn) (lent l.hk l.hn) l.left l.at l.depth l.used

abbrev pub decreases-loop-to : goal.decreases-loop-to
decreases-loop-to l = l.left
