use Rattle.exec_run.proofs.Laws.{place_at}
use Rattle.exec_run.proofs.place.Goals as goal

pub returns : goal.returns
returns c = λ j e. place_at _ _ _ j e
