use mathlib.Core.Path.{refl}
use Rattle.exec_state.proofs.start.Laws.{start_is}
use Rattle.exec_state.proofs.start.set_start.Goals as goal

pub returns : goal.returns
returns c = start_is _ _ _ _ _ _ _ _ _ _ (search) (search) refl refl refl
