use Rattle.exec_state.proofs.start.Laws.{registers_are}
use Rattle.exec_state.proofs.start.set_registers.Goals as goal

pub returns : goal.returns
returns c = registers_are _ _ c.put.ensures (search)
