use mathlib.Core.Path.{refl}
use Rattle.exec.specs.Run.{answer_of}
use Rattle.exec_machine.specs.declared.Stop.TheVariants.{StackFull, HeapFull, Stuck}
use Rattle.exec_outcome.proofs.Laws.{at_halt, at_stop}
use Rattle.exec_outcome.proofs.answer_at.Goals as goal

pub returns-in-Halted : goal.returns-in-Halted
returns-in-Halted c = at_halt _ c.in-Halted.is (search)

pub returns-in-StackFull : goal.returns-in-StackFull
unfolding answer_of
returns-in-StackFull c = at_stop StackFull _ _ c.in-StackFull.is refl

pub returns-in-HeapFull : goal.returns-in-HeapFull
unfolding answer_of
returns-in-HeapFull c = at_stop HeapFull _ _ c.in-HeapFull.is refl

pub returns-in-Stuck : goal.returns-in-Stuck
unfolding answer_of
returns-in-Stuck c = at_stop Stuck _ _ c.in-Stuck.is refl
