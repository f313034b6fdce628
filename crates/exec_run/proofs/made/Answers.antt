use mathlib.Core.Path.{refl}
use Rattle.exec_run.proofs.made.Goals as goal

pub returns : goal.returns
returns c = refl
