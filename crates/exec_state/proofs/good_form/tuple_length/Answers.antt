use Rattle.exec_state.proofs.good_form.Laws.{no_length, too_long, its_length}
use Rattle.exec_state.proofs.good_form.tuple_length.Goals.{else-w-eq-INT-via-then-w-eq-INT+else-w-le16, else-w-eq-INT-via-else-w-eq-INT}
use Rattle.exec_state.proofs.good_form.tuple_length.Goals as goal

pub returns-then-w-le16 : goal.returns-then-w-le16
returns-then-w-le16 c = (its_length _ _ c.if-w-eq-INT.true c.if-w-le16.true, c.if-w-le16.true)

pub returns-else-w-eq-INT : goal.returns-else-w-eq-INT
returns-else-w-eq-INT c = elim c.else-w-eq-INT.branch [
  | else-w-eq-INT-via-then-w-eq-INT+else-w-le16 w ↦ too_long _ _ w.if-w-le16.false
  | else-w-eq-INT-via-else-w-eq-INT w ↦ no_length _ _ w.if-w-eq-INT.false
]
