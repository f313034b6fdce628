use Rattle.exec_state.proofs.good_form.Laws.{marked}
use Rattle.exec_state.proofs.good_form.mark.Goals as goal

pub returns : goal.returns
returns c = marked _
