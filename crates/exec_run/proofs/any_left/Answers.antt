use mathlib.Core.Path.{refl}
use Rattle.exec_run.proofs.any_left.Goals as goal

pub returns : goal.returns
returns c = refl
